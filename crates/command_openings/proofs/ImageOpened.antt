-- The opening of a command's image, from its parts.
use Rattle.std.proofs.Common.{◌≡◌, ℕ, Bool, true, false, IsTrue, List, [], ◌∷◌, ◌++◌, length, refl, sym, ap, ◌∙◌, subst, inl, inr, arith, Err}
use Rattle.dude_base.specs.declared.sizes.Sizes.{Sizes}
use Rattle.dude_base.specs.Sizes.{IsAccepted}
use Rattle.pmem_trait.specs.declared.call.Call.TheVariants.{Tell}
use Rattle.pmem_trait.specs.Sights.{Sight, state_now, AtEveryMoment, CallsMade, Extends, Risen, SomeCalls}
use Rattle.pmem_trait.specs.Reads.{ContentHas}
use Rattle.pmem_trait.proofs.Laws.{every_moment_then, every_moment_weaker}
use Rattle.pmem_trait.proofs.Runs.{made_later, ran_on}
use Rattle.pmem_trait.proofs.Told.{last_image}
use Rattle.tatp_layout.specs.StandsFor.{StandsFor}
use Rattle.image_recovery.specs.Faults.{IsFaultOn}
use Rattle.image_recovery.specs.Recovered.{IsRecovered, RecoversArray, RecoversTo}
use Rattle.image_recovery.specs.declared.open_fault.OpenFault.{OpenFault}
use Rattle.image_recovery.specs.declared.open_fault.OpenFault.TheVariants as opening
use Rattle.image_recovery.proofs.Accepted.{never_out}
use Rattle.dude_recover.specs.Causes.{FormatCallsMade, FormatsSome, HasFormatCause}
use Rattle.dude_recover.specs.FormatCalls.{format_calls}
use Rattle.dude_recover.specs.NewImages.{IsNewImage, RecoversOnceTold}
use Rattle.back_store.specs.Images.{IsIdleMedium}
use Rattle.tatp_model.specs.Population.{population}
use Rattle.dude_recover.specs.declared.format_fault.FormatFault.{FormatFault}
use Rattle.dude_recover.specs.declared.format_fault.FormatFault.TheVariants as format
use Rattle.dude_recover.specs.Answers as answers
use Rattle.dude_recover.specs.Answers.{LeftBy, StillRecovers}
use Rattle.dude_engine.specs.Opening.{Opening}
use Rattle.dude_engine.specs.Plain.{IsOpeningOf}
use Rattle.pmem_trait.specs.declared.medium.Medium.{Ghosts}
use Rattle.pmem_trait.proofs.Runs.{risen_later}
use Rattle.dude_recover.specs.declared.opened.Opened.{Opened}
use Rattle.dude_recover.specs.Opened.{HasToldNoMore, HoldsOpened, IsOpened}
use Rattle.command_openings.proofs.OneOpening.{one_opening, opening_with}
use Rattle.command_edges.specs.declared.fault.Fault.{Fault}
use Rattle.command_edges.specs.declared.fault.Fault.TheVariants.{Device}
use Rattle.tatp_model.specs.Database.{Database}
use Rattle.command_openings.specs.Announcing.{IsSameImage}
use Rattle.command_openings.specs.Opens.{Opens, OpensPartly, ShowsOpening, TellsAtMost}
use Rattle.command_openings.specs.Faults.{HasFormatFault, HasOpenFault, IsFaultOfFormat, IsSized, fault_of_opening}
use Rattle.command_openings.specs.Openings.{IsOpeningOn, new_opening}
use Rattle.command_openings.proofs.Images.{made_shows, none_behind, opening_lawful, still_shows}

-- what has to be shown of a visible medium alone
pub partly_visible : {makes : Bool} {opening : Opening} {s t : Sight} → Extends s t → (IsTrue s.is_visible → OpensPartly makes opening s t) → OpensPartly makes opening s t
partly_visible later h = record {
  moments = record { later = later; each = λ visible. (h visible).moments.each visible };
  told = λ visible. (h visible).told visible;
}

-- an image is being made
pub partly_made : (sizes : Sizes) (s t : Sight) → AtEveryMoment (RecoversOnceTold sizes (state_now s).told) s t → OpensPartly true (new_opening sizes) s t
partly_made sizes s t images = record {
  moments = every_moment_weaker (λ told image size shown. made_shows sizes (state_now s).told told image shown) images;
  told = λ visible. elim (last_image images visible).1 [ inl same ↦ inl same | inr shown ↦ inr shown.0 ];
}

-- an image is being opened
pub opening_moments : (opening : Opening) (s t : Sight) → AtEveryMoment (StillRecovers (state_now s).told opening.number opening.sizes opening.database) s t
    → AtEveryMoment (ShowsOpening false (length (state_now s).told) opening) s t
opening_moments opening s t images = every_moment_weaker (λ told image size still. still_shows (state_now s).told opening told image still) images

-- nothing is told by that
pub opening_told : (opening : Opening) (s t : Sight) → AtEveryMoment (StillRecovers (state_now s).told opening.number opening.sizes opening.database) s t → IsTrue s.is_visible
    → (state_now t).told ≡ (state_now s).told
opening_told opening s t images visible = (last_image images visible).1.0

pub partly_opened : (opening : Opening) (s t : Sight) → AtEveryMoment (StillRecovers (state_now s).told opening.number opening.sizes opening.database) s t → OpensPartly false opening s t
partly_opened opening s t images = record { moments = opening_moments opening s t images; told = λ visible. inl (opening_told opening s t images visible) }

-- the content recovers to the opening whose array it recovers to
pub on_content : (sizes : Sizes) (number : ℕ) (words : List ℕ) (opening : Opening) (s : Sight) → opening.number ≡ number → opening.sizes ≡ sizes → StandsFor sizes words opening.database
    → ContentHas (RecoversArray sizes number words) s → IsOpeningOn s opening
on_content sizes number words opening s numbers same stands recovered visible content is =
    let r = recovered visible content is in
    let P : ℕ → Type 0 = λ n. RecoversTo content n opening.sizes opening.database in
    let Q : Sizes → Type 0 = λ z. RecoversTo content number z opening.database in
    subst P (sym numbers) (subst Q (sym same) (record { array = words; recovered = r.recovered; same_sizes = r.same_sizes; stands = stands }))

-- why an image couldn't be opened
pub open_fault : (fault : OpenFault) (s t : Sight) → LeftBy fault s t
    → IsFaultOn s fault → (fault ≡ opening.Device → Risen s.faults t.faults) → HasOpenFault s t (fault_of_opening fault)
open_fault opening.Unformatted s t left is device = (is, left)
open_fault (opening.Damaged line) s t left is device = (is, left)
open_fault (opening.NotDb word) s t left is device = (is, left)
open_fault opening.Device s t left is device = (device refl, inl left)
open_fault opening.NoMemory s t left is device = left

-- why an image couldn't be made
pub format_fault : (X : Type 0) (fault : FormatFault) (own : Fault) (sizes : Sizes) (s t : Sight) → HasFormatCause sizes s t fault → FormatCallsMade {X = X} sizes (Err fault) s t
    → IsFaultOfFormat fault own → HasFormatFault sizes s t own
format_fault X (format.Size field) own sizes s t cause calls is = absurd is
format_fault X (format.Small has needs) own sizes s t cause calls is = subst (HasFormatFault sizes s t) (sym is) (calls, cause.1, cause.2, cause.3)
format_fault X (format.TooFew rows count) own sizes s t cause calls is = subst (HasFormatFault sizes s t) (sym is) (calls, cause.1, cause.2, cause.3, cause.4)
format_fault X format.Device own sizes s t cause calls is = subst (HasFormatFault sizes s t) (sym is) (cause.0, cause.1, calls)
format_fault X format.NoMemory own sizes s t cause calls is = subst (HasFormatFault sizes s t) (sym is) (cause, inl calls)

pub is_sized : (fault : FormatFault) (sizes : Sizes) (s t : Sight) → IsAccepted sizes → HasFormatCause sizes s t fault → IsSized fault
is_sized (format.Size field) sizes s t accepted cause = absurd (never_out sizes field accepted cause)
is_sized (format.Small has needs) sizes s t accepted cause = tt
is_sized (format.TooFew rows count) sizes s t accepted cause = tt
is_sized format.Device sizes s t accepted cause = tt
is_sized format.NoMemory sizes s t accepted cause = tt

-- an image with the same parts has the array to which the content recovers
pub recovered_same : {M : Type 0} {ghosts : Ghosts M} (o x : Opened M ghosts) (s : Sight) → IsSameImage o x → ContentHas (RecoversArray o.sizes o.number o.words.items) s
    → ContentHas (RecoversArray x.sizes x.number x.words.items) s
recovered_same o x s same recovered =
    let words : x.words.items ≡ o.words.items = ap (λ v. v.items) same.words in
    rw (same.sizes, same.number, words) recovered

-- an image was opened, and its number is announced
module _ {M : Type 0} {ghosts : Ghosts M} (o : Opened M ghosts) (s m t : Sight) (opened : IsOpened o)
    (recovered : ContentHas (RecoversArray o.sizes o.number o.words.items) s) (calls : SomeCalls true s m)
    (holds : (before : ℕ) → HasToldNoMore before o.number s → HoldsOpened before o.sizes o.number o.words.items m)
    (images : (number : ℕ) (sizes : Sizes) (db : Database) → ContentHas (λ content. RecoversTo content number sizes db) s
    → AtEveryMoment (StillRecovers (state_now s).told number sizes db) s m)
    (moments : (opening : Opening) (before : ℕ) → IsOpeningOf o opening → HoldsOpened before o.sizes o.number o.words.items m → AtEveryMoment (ShowsOpening false before opening) m t) where
  held : HoldsOpened (length (state_now s).told) o.sizes o.number o.words.items m
  held = holds (length (state_now s).told) (λ visible. none_behind (state_now s).told o.number)

  there : IsTrue s.is_visible → IsTrue m.is_visible
  there visible = subst (λ b. IsTrue b) (sym (made_later calls.1).is_visible) visible

  on_it : (opening : Opening) → IsOpeningOf o opening → IsOpeningOn s opening
  on_it opening is = on_content o.sizes o.number o.words.items opening s is.number is.sizes is.stands recovered

  still : (opening : Opening) → IsOpeningOf o opening → AtEveryMoment (StillRecovers (state_now s).told opening.number opening.sizes opening.database) s m
  still opening is = images opening.number opening.sizes opening.database (on_it opening is)

  both : (opening : Opening) → IsOpeningOf o opening → AtEveryMoment (ShowsOpening false (length (state_now s).told) opening) s t
  both opening is = every_moment_then (opening_moments opening s m (still opening is)) (moments opening (length (state_now s).told) is held)

  abbrev own : Opening
  own = opening_with o.number o.sizes opened.lawful.0

  own_is : IsOpeningOf o own
  own_is = record { number = refl; sizes = refl; stands = opened.lawful.1 }

  -- at Ok
  pub announced_opens_all : (x : Opened M ghosts) → IsSameImage o x → answers.Opens true o.sizes o.number o.words.items s m → CallsMade (Tell o.number ∷ []) true m t
      → (IsTrue m.is_visible → (state_now t).told ≡ (state_now m).told ++ o.number ∷ [])
      → ((before : ℕ) → HoldsOpened before o.sizes o.number o.words.items m → HoldsOpened before o.sizes o.number o.words.items t)
      → (opening : Opening) → IsOpeningOf x opening → IsOpeningOn s opening × Opens false opening x.words.items s t
  announced_opens_all x same opens tells told on opening of_x =
      let words : x.words.items ≡ o.words.items = ap (λ v. v.items) same.words in
      let number : opening.number ≡ o.number = of_x.number ∙ same.number in
      let sizes : opening.sizes ≡ o.sizes = of_x.sizes ∙ same.sizes in
      let is : IsOpeningOf o opening = record {
        number = number;
        sizes = sizes;
        stands = subst (λ (z : Sizes). StandsFor z o.words.items opening.database) same.sizes (subst (λ (l : List ℕ). StandsFor x.sizes l opening.database) words of_x.stands);
      } in (
        on_it opening is,
        record {
          lawful = opening_lawful o opening opened is;
          moments = both opening is;
          told = λ visible. told (there visible) ∙ (ap (λ (l : List ℕ). l ++ o.number ∷ []) (opening_told opening s m (still opening is) visible)
              ∙ ap (λ (n : ℕ). (state_now s).told ++ n ∷ []) (sym number));
          holds = rw (sizes, number, words) (on (length (state_now s).told) held);
          calls = rw (sizes, number, words) (record { opened = m; opens = opens; tells = tells });
          ran = ran_on calls tells;
        },
      )

  -- at Err
  pub announced_prefix : Extends s t → (IsTrue m.is_visible → TellsAtMost o.number m t) → (opening : Opening) → IsOpeningOn s opening → OpensPartly false opening s t
  announced_prefix later told opening on = partly_visible later (λ visible. subst (λ (p : Opening). OpensPartly false p s t) (one_opening s own opening visible (on_it own own_is) on) (record {
    moments = both own own_is;
    told = λ seen. elim (told (there seen)) [
      | inl same ↦ inl (same ∙ opening_told own s m (still own own_is) seen)
      | inr more ↦ inr (more ∙ ap (λ (l : List ℕ). l ++ o.number ∷ []) (opening_told own s m (still own own_is) seen))
    ];
  }))

  pub announced_opens : ((opening : Opening) → IsOpeningOn s opening → ⊥) → ⊥
  announced_opens none = none own (on_it own own_is)

  pub announced_fault : (fault : Fault) → fault ≡ Device → IsRecovered s.len o.sizes o.number o.words.items → answers.Opens true o.sizes o.number o.words.items s m
      → Risen m.faults t.faults → CallsMade (Tell o.number ∷ []) false m t → HasOpenFault s t fault
  announced_fault fault is found opens risen tells = subst (HasOpenFault s t) (sym is) (
    risen_later s.faults m.faults t.faults t.faults (made_later calls.1).faults risen (omega arith),
    inr (record {
      sizes = o.sizes;
      number = o.number;
      words = o.words.items;
      is = found;
      recovered = recovered;
      calls = record { opened = m; opens = opens; tells = tells };
    }),
  )

-- an image was made, and is opened as it is
pub made_opening : {M : Type 0} {ghosts : Ghosts M} (o : Opened M ghosts) (sizes : Sizes) (words : List ℕ) → o.sizes ≡ sizes → o.number ≡ 0 → o.words.items ≡ words
    → StandsFor sizes words (population sizes.subscribers) → IsOpeningOf o (new_opening sizes)
made_opening o sizes words same number is stands = record {
  number = sym number;
  sizes = sym same;
  stands = subst (λ (z : Sizes). StandsFor z o.words.items (population sizes.subscribers)) (sym same) (subst (λ (l : List ℕ). StandsFor sizes l (population sizes.subscribers)) (sym is) stands);
}

pub made_opens_all : {M : Type 0} {ghosts : Ghosts M} (o : Opened M ghosts) (sizes : Sizes) (words : List ℕ) (s t : Sight) → IsOpened o → IsOpeningOf o (new_opening sizes) → o.words.items ≡ words
    → AtEveryMoment (RecoversOnceTold sizes (state_now s).told) s t → (IsTrue s.is_visible → IsNewImage sizes words (state_now s) (state_now t))
    → ((before : ℕ) → (IsTrue t.is_visible → IsIdleMedium before sizes 0 words (state_now t)) → HoldsOpened before sizes 0 words t)
    → FormatsSome sizes true s t → Opens true (new_opening sizes) o.words.items s t
made_opens_all o sizes words s t opened own is images rests holds calls = record {
  lawful = opening_lawful o (new_opening sizes) opened own;
  moments = (partly_made sizes s t images).moments;
  told = λ visible. (rests visible).told;
  holds = subst (λ (l : List ℕ). HoldsOpened (length (state_now s).told) sizes 0 l t) (sym is)
      (holds (length (state_now s).told) (λ visible. (rests (subst (λ b. IsTrue b) (made_later calls.2).is_visible visible)).idle));
  calls = calls;
  ran = (format_calls sizes calls.0, calls.2);
}
