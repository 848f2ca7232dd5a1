-- An image that was made and opened may be run on by two threads.
use Rattle.std.proofs.Common.{◌≡◌, ℕ, ◌≤◌, ◌<◌, ◌^◌, List, [], ◌∷◌, length, sym, ap, subst, arith}
use Rattle.std.specs.List.{All}
use Rattle.std.proofs.lemmas.List.Elements.{All-cons, All-nil}
use Rattle.dude_base.specs.declared.run.Run.{Run}
use Rattle.dude_base.specs.declared.sizes.Sizes.{Sizes}
use Rattle.dude_base.specs.Run.{IsRunWithin}
use Rattle.pmem_trait.specs.declared.medium.Medium.{Ghosts}
use Rattle.pmem_trait.specs.Sights.{state_now}
use Rattle.back_store.specs.BackView.{sight_of}
use Rattle.dude_recover.specs.declared.opened.Opened.{Opened}
use Rattle.dude_recover.specs.Opened.{HoldsOpened}
use Rattle.tatp_model.specs.declared.request.Request.{Request}
use Rattle.tatp_model.specs.declared.request.Request.TheVariants.{UpdateLocation}
use Rattle.tatp_model.specs.Request.{IsInRange}
use Rattle.command_openings.proofs.Images.{none_behind}
use Rattle.dude_engine.specs.Opening.{Opening}
use Rattle.dude_engine.specs.Plain.{IsOpeningOf}
use Rattle.run_threads.specs.Ends.{IsAsOpened, MayRunOn}

-- a file of one update with its fields in range
one_update : (sub_nbr vlr : ℕ) (requests : List Request) → requests ≡ UpdateLocation sub_nbr vlr ∷ [] → sub_nbr < 10 ^ 15 → vlr < 2 ^ 32 → All IsInRange requests
one_update sub_nbr vlr requests is phone location =
    subst (λ (l : List Request). All IsInRange l) (sym is) (All-cons IsInRange (UpdateLocation sub_nbr vlr) [] (phone, location) (All-nil IsInRange))

module _ {M : Type 0} {ghosts : Ghosts M} (o : Opened M ghosts) where
  -- an image that was opened at its opening is as the opening left it, whatever was told
  pub as_opened : (before : ℕ) (opening : Opening) → IsOpeningOf o opening → HoldsOpened before opening.sizes opening.number o.words.items (sight_of o.back) → IsAsOpened o
  as_opened before opening is held =
      let of_sizes = subst (λ (z : Sizes). HoldsOpened before z opening.number o.words.items (sight_of o.back)) is.sizes held in
      let own = subst (λ (n : ℕ). HoldsOpened before o.sizes n o.words.items (sight_of o.back)) is.number of_sizes in
      record {
        keeps = record { holds = own.keeps.holds; told = λ alive visible. none_behind (state_now (sight_of o.back)).told o.number };
        home = own.home;
      }

  -- two files of one update each may be run over it
  pub may_run : (run : Run) (one two : ℕ) (first second : List Request) → first ≡ UpdateLocation 1 one ∷ [] → second ≡ UpdateLocation 2 two ∷ [] → one < 2 ^ 32 → two < 2 ^ 32
      → IsAsOpened o → o.number ≡ 0 → IsRunWithin o.sizes.pages run → 2 ≤ o.sizes.rings → MayRunOn o run 2 (first ∷ second ∷ [])
  may_run run one two first second is_first is_second low high held new within rings = record {
    held = held;
    run_within = within;
    some = omega arith;
    rings = rings;
    in_range = All-cons (All IsInRange) first (second ∷ []) (one_update 1 one first is_first (omega arith) low)
        (All-cons (All IsInRange) second [] (one_update 2 two second is_second (omega arith) high) (All-nil (All IsInRange)));
    numbers =
        let one_long : length first ≡ 1 = ap (λ (l : List Request). length l) is_first in
        let two_long : length second ≡ 1 = ap (λ (l : List Request). length l) is_second in
        omega (arith, new, one_long, two_long);
  }
