-- What one thread runs over an image that was opened behind the threads.
use Rattle.std.proofs.Common.{◌≡◌, ℕ, List, refl, subst}
use Rattle.dude_base.specs.declared.sizes.Sizes.{Sizes}
use Rattle.pmem_trait.specs.Sights.{Sight}
use Rattle.pmem_trait.specs.declared.medium.Medium.{Ghosts}
use Rattle.tatp_model.specs.declared.done.Done.{Done}
use Rattle.tatp_model.specs.declared.request.Request.{Request}
use Rattle.tatp_model.specs.Database.{Database}
use Rattle.tatp_layout.specs.StandsFor.{StandsFor}
use Rattle.back_store.specs.BackView.{sight_of}
use Rattle.dude_recover.specs.declared.opened.Opened.{Opened}
use Rattle.dude_recover.specs.Opened.{HasParts, IsOpened}
use Rattle.dude_engine.specs.declared.ran.RanEnd.{RanEnd}
use Rattle.dude_engine.specs.Opening.{Opening}
use Rattle.dude_engine.specs.Plain.{AnswersFiles, EndsAs, IsOpeningOf, RecoversOnTheRun, TellsSyncs}
use Rattle.dude_engine.proofs.LogOperations.{run_makes}
use Rattle.run_threads.specs.Behind.{RanBehind, reopening}

module _ {M : Type 0} {ghosts : Ghosts M} (o : Opened M ghosts) (opened : IsOpened o) (files : List (List Request)) (done : List Done) (end : RanEnd) (number : ℕ) (u : Sight)
    (replies : (opening : Opening) → IsOpeningOf o opening → AnswersFiles opening files done) (syncs : TellsSyncs o.number done (sight_of o.back) u)
    (moments : (opening : Opening) → IsOpeningOf o opening → RecoversOnTheRun opening o.words.items done (sight_of o.back) u) (ends : EndsAs o files done end number u) where
  is_opening : (db : Database) → StandsFor o.sizes o.words.items db → IsOpeningOf o (reopening o.sizes o.number db)
  is_opening db stands = record { number = refl; sizes = refl; stands = stands }

  here : RanBehind o.sizes o.number o.words.items files done end number (sight_of o.back) u
  here = record {
    some = opened.lawful;
    answers = λ db stands. replies (reopening o.sizes o.number db) (is_opening db stands);
    least = syncs.from;
    syncs = syncs.told;
    moments = λ db stands. moments (reopening o.sizes o.number db) (is_opening db stands);
    whole = λ whole db stands. ends.whole whole (reopening o.sizes o.number db) (is_opening db stands);
    operates = λ whole. run_makes (ends.calls whole) opened.idle refl refl;
    from = ends.from;
    told = λ visible. ends.last_told visible (reopening o.sizes o.number opened.lawful.0) (is_opening opened.lawful.0 opened.lawful.1);
    len = ends.len;
    ran = ends.ran;
    cause = ends.cause;
    few_lost = λ db stands. ends.few_lost (reopening o.sizes o.number db) (is_opening db stands);
  }

  pub ran_behind : (sizes : Sizes) (last : ℕ) (words : List ℕ) (t : Sight) → HasParts sizes last words o → sight_of o.back ≡ t → RanBehind sizes last words files done end number t u
  ran_behind sizes last words t parts there =
      subst (λ (x : Sight). RanBehind sizes last words files done end number x u) there
      (subst (λ (x : List ℕ). RanBehind sizes last x files done end number (sight_of o.back) u) parts.2
      (subst (λ (n : ℕ). RanBehind sizes n o.words.items files done end number (sight_of o.back) u) parts.1
      (subst (λ (z : Sizes). RanBehind z o.number o.words.items files done end number (sight_of o.back) u) parts.0 here)))
