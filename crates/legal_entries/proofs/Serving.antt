-- A served entry: which reads and writes it has, and that it wrote exactly where its reply is `Changed`.
use Rattle.std.proofs.Common.{◌≡◌, ◌≢◌, false, refl, ap, sym, ◌∙◌, ⊎_elim}
use Rattle.std.proofs.lemmas.Bool.{cases_Bool, both_ways}
use Rattle.dude_base.specs.declared.sizes.Sizes.{Sizes}
use Rattle.tatp_model.specs.declared.reply.Reply.{Reply}
use Rattle.tatp_model.specs.declared.reply.Reply.TheVariants.{Subscriber, Destinations, Access, Changed, Missing, NoFacility, Duplicate, FullTable, Durable}
use Rattle.tatp_model.specs.OneThread.{is_changed}
use Rattle.core_events.specs.Views.{Entry}
use Rattle.legal_entries.specs.Served.{IsServed, LawOfServing}

changed_not : (r : Reply) → r ≢ Changed → is_changed r ≡ false
changed_not (Subscriber x) n = refl
changed_not (Destinations x) n = refl
changed_not (Access x) n = refl
changed_not Changed n = absurd (n refl)
changed_not Missing n = refl
changed_not NoFacility n = refl
changed_not Duplicate n = refl
changed_not FullTable n = refl
changed_not Durable n = refl

pub wrote_changed : (s : Sizes) (e : Entry) → IsServed s e → e.wrote ≡ is_changed e.about.reply
wrote_changed s e served =
    let changed = served.answers.wrote in
    ⊎_elim
    (λ w. w ∙ sym (ap is_changed (changed.1 (served.wrote.0 w))))
    (λ h. h ∙ sym (changed_not e.about.reply (λ is. both_ways e.wrote h (served.wrote.1 (changed.0 is)))))
    (cases_Bool e.wrote)

pub served_entry : LawOfServing
served_entry s words e no_sync of answers = record { no_sync = no_sync; wrote = of.wrote; answers = rw (of.reads, of.writes) answers }
