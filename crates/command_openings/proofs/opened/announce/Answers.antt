use Rattle.std.proofs.Common.{ℕ, ◌∷◌, [], ◌++◌, refl, sym, ap, ◌∙◌}
use Rattle.dude_base.specs.declared.sizes.Sizes.{Sizes}
use Rattle.pmem_trait.specs.Sights.{state_now}
use Rattle.back_store.specs.Back.{idle}
use Rattle.back_store.specs.BackView.{medium_of, state_of}
use Rattle.pmem_trait.proofs.Runs.{made_later}
use Rattle.back_store.proofs.Announced.{announced_end}
use Rattle.command_openings.proofs.Announced.{announced_holds, announced_idle, announced_moments, announced_number, failed_announce, fails_number, tells_number}
use Rattle.command_openings.proofs.opened.announce.Goals as goal

pub returns-in-Ok-clause-opened : goal.returns-in-Ok-clause-opened
returns-in-Ok-clause-opened g c = record {
  idle = announced_idle (state_of c.args.opened.back) (state_of c.announce.new.self) c.args.opened.sizes c.args.opened.number c.in-Ok.field-0 c.requires.opened.idle (announced_end c.in-Ok.ensures.calls) c.in-Ok.ensures.state;
  layout = c.requires.opened.layout;
  accepted = c.requires.opened.accepted;
  small = c.requires.opened.small;
  lawful = c.requires.opened.lawful;
}

pub returns-in-Ok-clause-announced : goal.returns-in-Ok-clause-announced
returns-in-Ok-clause-announced g c = record {
  told = λ visible.
      c.in-Ok.ensures.told.answer visible
      ∙ ap (λ (n : ℕ). (state_now (g.M.Medium.sight (medium_of c.args.opened.back))).told ++ n ∷ [])
      (announced_number (state_of c.args.opened.back) c.args.opened.sizes c.args.opened.number c.in-Ok.field-0 c.requires.opened.idle (announced_end c.in-Ok.ensures.calls));
  holds = λ before holds.
      let is = c.requires.opened.idle in
      let becomes = announced_idle (state_of c.args.opened.back) (state_of c.announce.new.self) c.args.opened.sizes c.args.opened.number c.in-Ok.field-0 is (announced_end c.in-Ok.ensures.calls) c.in-Ok.ensures.state in
      announced_holds (state_of c.args.opened.back) (state_of c.announce.new.self) c.args.opened.sizes c.args.opened.number c.args.opened.words.items _ _ is becomes
      (made_later c.in-Ok.ensures.calls.made).is_visible c.in-Ok.ensures.crash.keeps c.in-Ok.ensures.home_stays before holds;
}

pub returns-in-Ok-clause-moments : goal.returns-in-Ok-clause-moments
returns-in-Ok-clause-moments g c opening before own holds =
    announced_moments (state_of c.args.opened.back) c.args.opened.number c.args.opened.words.items _ _ opening before (c.requires.opened.idle ∙ ap (λ (z : Sizes). idle z c.args.opened.number) (sym own.sizes)) (sym own.number)
    (rw own.sizes own.stands) (rw own.sizes holds) c.in-Ok.ensures.crash.moments

pub returns-in-Err-clause-failed : goal.returns-in-Err-clause-failed
returns-in-Err-clause-failed g c = record {
  fault = refl;
  at_most = λ visible.
      rw c.into_medium.ensures (failed_announce (state_of c.args.opened.back) c.in-Err.field-0 c.args.opened.sizes c.args.opened.number _ _ c.requires.opened.idle
      c.in-Err.ensures.calls visible);
}

pub returns-in-Err-clause-moments : goal.returns-in-Err-clause-moments
returns-in-Err-clause-moments g c opening before own holds =
    rw c.into_medium.ensures (announced_moments (state_of c.args.opened.back) c.args.opened.number c.args.opened.words.items _ _ opening before (c.requires.opened.idle ∙ ap (λ (z : Sizes). idle z c.args.opened.number) (sym own.sizes)) (sym own.number)
    (rw own.sizes own.stands) (rw own.sizes holds) c.in-Err.ensures.crash.moments)

pub returns-in-Ok-clause-same : goal.returns-in-Ok-clause-same
returns-in-Ok-clause-same g c = record { sizes = refl; number = refl; words = refl }

pub returns-in-Ok-clause-ran : goal.returns-in-Ok-clause-ran
returns-in-Ok-clause-ran g c =
    tells_number (state_of c.args.opened.back) c.args.opened.sizes c.args.opened.number c.in-Ok.field-0 _ _ c.requires.opened.idle c.in-Ok.ensures.calls

pub returns-in-Err-clause-ran : goal.returns-in-Err-clause-ran
returns-in-Err-clause-ran g c =
    rw c.into_medium.ensures (fails_number (state_of c.args.opened.back) c.in-Err.field-0 c.args.opened.sizes c.args.opened.number _ _ c.requires.opened.idle
    c.in-Err.ensures.cause.only c.in-Err.ensures.cause.dead.0 c.in-Err.ensures.calls)
