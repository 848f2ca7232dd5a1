use Rattle.std.proofs.Common.{◌≡◌, ◌≤◌, ℕ, Bool, List, Err, refl, sym, ap, arith, rules, subst}
use Rattle.dude_base.specs.declared.sizes.Sizes.{Sizes}
use Rattle.dude_base.specs.Image.{image_words}
use Rattle.dude_base.specs.Sizes.{IsAccepted}
use Rattle.pmem_trait.specs.Words.{State, IsSettled}
use Rattle.pmem_trait.specs.Sights.{Sight, state_now, CallsMade}
use Rattle.pmem_trait.proofs.Runs.{made_here, made_cause}
use Rattle.pmem_trait.proofs.Laws.{made_keep}
use Rattle.tatp_model.specs.Population.{population, population_calls}
use Rattle.tatp_layout.specs.StandsFor.{StandsFor}
use Rattle.tatp_rows.specs.Populated.{IsPopulated}
use Rattle.dude_recover.specs.declared.format_fault.FormatFault.TheVariants.{Device}
use Rattle.dude_recover.specs.FormatCalls.{format_calls}
use Rattle.dude_recover.specs.NewImages.{IsNewImage, ShowsNewImage}
use Rattle.dude_recover.proofs.NewImages.{new_images, new_image, new_settled}
use Rattle.dude_recover.proofs.formatting.make_image.Goals as goal

-- place, layout and slice are those of the sizes and the home
made_same : {p s : Sizes} {xs ys : List ℕ} {ok : Bool} {a b : Sight} → p ≡ s → xs ≡ ys → CallsMade (format_calls p xs) ok a b → CallsMade (format_calls s ys) ok a b
made_same {p} {s} {xs} {ys} {ok} {a} {b} place home made =
    subst (λ (s : Sizes). CallsMade (format_calls s ys) ok a b) place (subst (λ (xs : List ℕ). CallsMade (format_calls p xs) ok a b) home made)

stands_same : {l s : Sizes} {xs : List ℕ} → l ≡ s → StandsFor l xs (population l.subscribers) → StandsFor s xs (population s.subscribers)
stands_same {xs = xs} layout stands = subst (λ (s : Sizes). StandsFor s xs (population s.subscribers)) layout stands

room_same : {l s : Sizes} → l ≡ s → population_calls l.subscribers ≤ l.calls → population_calls s.subscribers ≤ s.calls
room_same layout room = subst (λ (s : Sizes). population_calls s.subscribers ≤ s.calls) layout room

populated_same : {l s : Sizes} {xs : List ℕ} → l ≡ s → IsPopulated l xs → IsPopulated s xs
populated_same {xs = xs} layout populated = subst (λ (s : Sizes). IsPopulated s xs) layout populated

pub returns-then-has-needs-clause-cause : goal.returns-then-has-needs-clause-cause
returns-then-has-needs-clause-cause g c =
    let words = ap image_words c.of-place.ensures in
    (c.in_ok-lay.ensures.ok.1, omega arith, omega arith, c.if-has-needs.true)

pub returns-in_err-write_image-clause-cause : goal.returns-in_err-write_image-clause-cause
returns-in_err-write_image-clause-cause g c =
    let is : c.from_residual-in_err-write_image.result ≡ Err Device = search rules in
    let words = ap image_words c.of-place.ensures in
    let layout = c.in_ok-lay.ensures.ok in
    rw is (
      record { accepted = layout.1; room = omega arith; calls = room_same layout.0 c.in_ok-home.ensures.room },
      made_cause c.in_err-write_image.ensures.made,
    )

-- the calls of a new image, all of them or the first ones, show it
images_made : {ok : Bool} {p l s : Sizes} {xs ys : List ℕ} {a b : Sight} → p ≡ s → xs ≡ ys → l ≡ s → IsAccepted s → image_words s ≤ a.len → StandsFor l ys (population l.subscribers)
    → CallsMade (format_calls p xs) ok a b → ShowsNewImage s a b
images_made {ok} place home layout accepted long stands made =
    made_keep _ {ok = ok} (made_same place home made) (λ visible. new_images (stands_same layout stands) _ _ accepted long)

pub returns-in_err-write_image-clause-images : goal.returns-in_err-write_image-clause-images
returns-in_err-write_image-clause-images g c =
    let words = ap image_words c.of-place.ensures in
    images_made c.of-place.ensures c.deref.ensures.value c.in_ok-lay.ensures.ok.0 c.in_ok-lay.ensures.ok.1 (omega arith) c.in_ok-home.ensures.stands c.in_err-write_image.ensures.made

pub returns-clause-images : goal.returns-clause-images
returns-clause-images g c =
    let words = ap image_words c.of-place.ensures in
    images_made c.of-place.ensures c.deref.ensures.value c.in_ok-lay.ensures.ok.0 c.in_ok-lay.ensures.ok.1 (omega arith) c.in_ok-home.ensures.stands c.in_ok-write_image.ensures.made

pub returns-clause-rests : goal.returns-clause-rests
returns-clause-rests g c =
    let old = g.M.Medium.sight c.args.m.now in
    let P : State → Type 0 = λ q. IsNewImage c.args.sizes.now c.in_ok-home.home.items (state_now old) q in
    let Q : State → Type 0 = λ q. IsSettled old.len q in
    let made = made_same c.of-place.ensures c.deref.ensures.value c.in_ok-write_image.ensures.made in
    let stands = stands_same c.in_ok-lay.ensures.ok.0 c.in_ok-home.ensures.stands in
    record {
      image = λ visible. subst P (sym (made_here made visible)) (new_image stands (state_now old));
      settled = λ visible. subst Q (sym (made_here made visible)) (new_settled stands (state_now old) old.len (c.requires.settled visible));
    }

pub returns-in_err-lay-clause-len : goal.returns-in_err-lay-clause-len
returns-in_err-lay-clause-len g c = refl

pub returns-in_err-home-clause-len : goal.returns-in_err-home-clause-len
returns-in_err-home-clause-len g c = refl

pub returns-in_err-write_image-clause-len : goal.returns-in_err-write_image-clause-len
returns-in_err-write_image-clause-len g c = c.in_err-write_image.ensures.len

pub returns-clause-len : goal.returns-clause-len
returns-clause-len g c = c.in_ok-write_image.ensures.len

pub returns-clause-fits : goal.returns-clause-fits
returns-clause-fits g c =
    let words = ap image_words c.of-place.ensures in
    let layout = c.in_ok-lay.ensures.ok in
    record { accepted = layout.1; room = omega arith; calls = room_same layout.0 c.in_ok-home.ensures.room }

pub returns-clause-home : goal.returns-clause-home
returns-clause-home g c = record {
  stands = stands_same c.in_ok-lay.ensures.ok.0 c.in_ok-home.ensures.stands;
  populated = populated_same c.in_ok-lay.ensures.ok.0 c.in_ok-home.ensures.words;
}

pub returns-clause-calls : goal.returns-clause-calls
returns-clause-calls g c =
    (c.in_ok-home.home.items, populated_same c.in_ok-lay.ensures.ok.0 c.in_ok-home.ensures.words, made_same c.of-place.ensures c.deref.ensures.value c.in_ok-write_image.ensures.made)

pub returns-in_err-write_image-clause-calls : goal.returns-in_err-write_image-clause-calls
returns-in_err-write_image-clause-calls g c =
    let is : c.from_residual-in_err-write_image.result ≡ Err Device = search rules in
    rw is (c.in_ok-home.home.items, populated_same c.in_ok-lay.ensures.ok.0 c.in_ok-home.ensures.words, made_same c.of-place.ensures c.deref.ensures.value c.in_err-write_image.ensures.made)
