use Rattle.std.proofs.Common.{◌≡◌, ◌↔◌, ◌≤◌, ◌∙◌, ℕ, Bool, IsTrue, List, None, false, ap, sym, refl, subst, map}
use Rattle.std.specs.List.{AllPairs}
use Rattle.std.specs.Prelude.{IsPermutation}
use Rattle.dude_base.specs.declared.sizes.Sizes.{Sizes}
use Rattle.dude_base.specs.Records.{RedoBundle}
use Rattle.redo_record.specs.Recovery.{AreConsecutive}
use Rattle.tatp_layout.specs.StandsFor.{StandsFor}
use Rattle.pmem_trait.specs.Sights.{Sight, Risen, state_now}
use Rattle.tatp_model.specs.OneThread.{PrecedesInFiles}
use Rattle.run_order.specs.Runs.{Collects}
use Rattle.run_order.proofs.Apart.{rounds_apart}
use Rattle.back_store.specs.BackView.{medium_of, state_of}
use Rattle.word_space.specs.Flats.{words_of}
use Rattle.back_store.specs.Operations.{Makes}
use Rattle.back_store.specs.Told.{WereTold}
use Rattle.log_numbered.specs.RunLog.{log_back, log_durable, log_end, log_medium, log_open, log_parts}
use Rattle.log_numbered.specs.KeptBundles.{are_kept, kept_bundles}
use Rattle.log_numbered.proofs.GoingOn.{on_ok}
use Rattle.log_numbered.proofs.LoggedCalls.{parts, parts_are}
use Rattle.dude_engine.specs.declared.ran.RanEnd.{RanEnd}
use Rattle.dude_engine.specs.declared.run.Run.{Run}
use Rattle.dude_engine.specs.declared.ran.RanEnd.TheVariants.{Device}
use Rattle.dude_engine.specs.Opening.{Opening}
use Rattle.dude_engine.specs.Plain.{IsLastTold, IsOpeningOf, LosesFew, most_lost}
use Rattle.dude_engine.specs.Keeping.{KeepsBy, KeepsRun}
use Rattle.dude_engine.specs.Shipping.{KeepsUp, Ships}
use Rattle.dude_engine.specs.RunCalls.{RunBy}
use Rattle.dude_engine.specs.Running.{EndsNearLast, IsLeft, IsRunning, IsSettledRun, end_by, went_well}
use Rattle.dude_engine.proofs.RunEnds.{Ended, begins, cause_by, device_by, ended_by, few_lost_of, follow_of, from_of, near_by, on_whole, performs_in_rounds, recovers_of, replies_of, syncs_of, well_by, whole_of}
use Rattle.dude_engine.proofs.Serving.{makes_its_calls, run_parts_are}
use Rattle.dude_engine.proofs.Keeping.{keeps_start}
use Rattle.dude_engine.proofs.Packets.{KeptThrough, keeps_up_of, over_of, ships_of, through_of}
use Rattle.dude_engine.proofs.one_thread.run_files.Goals as goal

pub returns : goal.returns
returns g c =
    let o = c.args.opened in
    let starts = c.new.ensures.starts in
    let files = map (λ f. f.items) c.args.files.now in
    let run = c.run_all-served.new.self in
    let served = c.run_all-served.result in
    let performed = run.done.items in
    let done = c.put_in_files.new.done.items in
    let s : Sight = g.M.Medium.sight (medium_of o.back) in
    let t : Sight = g.M.Medium.sight (log_medium run.log) in
    let u : Sight = g.M.Medium.sight c.into_medium.result in
    let still : u ≡ t = ap (λ m. g.M.Medium.sight m) c.into_medium.ensures in
    let running : (opening : Opening) → IsOpeningOf o opening → IsRunning opening o.words.items o.lay c.new.result (words_of c.new-2.result) c.new-3.result.items s (g.M.Medium.sight (log_medium c.new.result)) =
    λ opening is. begins o opening o.lay c.new.result (words_of c.new-2.result) c.new-3.result.items s (g.M.Medium.sight (log_medium c.new.result)) c.requires.opened is refl
    c.new-2.ensures.words c.new-3.ensures.items (ap (λ m. g.M.Medium.sight m) starts.medium) c.new.ensures.alive starts.sizes starts.last starts.end starts.durable o.back.room c.new.ensures.follows in
    let left : (opening : Opening) → IsOpeningOf o opening → IsLeft served opening o.words.items run s t = λ opening is. c.run_all-served.ensures.left opening o.words.items s (running opening is) in
    let at : (opening : Opening) → IsOpeningOf o opening → Ended (went_well served) opening o.words.items (log_durable run.log) performed s u =
    λ opening is. subst (λ (v : Sight). Ended (went_well served) opening o.words.items (log_durable run.log) performed s v) (sym still) (ended_by opening o.words.items run s t served (left opening is)) in
    let lawful : Opening = record { number = o.number; sizes = o.sizes; database = c.requires.opened.lawful.0 } in
    let lawful_is : IsOpeningOf o lawful = record { number = refl; sizes = refl; stands = c.requires.opened.lawful.1 } in
    let same : IsPermutation performed done = c.put_in_files.ensures.same in
    let performs = c.run_all-served.ensures.performs in
    let rounds = performs.rounds in
    let sorted : AllPairs PrecedesInFiles done = c.put_in_files.ensures.sorted (rounds_apart performed rounds) in
    let collects : Collects files performed done = performs.collects done same sorted in
    let some = (at lawful lawful_is).answered in
    let first : Run g.row.M.Denot g.M.Medium = record { log = c.new.result; lay = o.lay; words = c.new-2.result; done = c.new-3.result; packets = c.args.packets } in
    let start : (opening : Opening) → IsOpeningOf o opening → KeepsRun opening o.words.items first =
    λ opening is. keeps_start opening o.words.items first (subst (λ (z : Sizes). StandsFor z o.words.items opening.database) (sym is.sizes) is.stands) c.new-2.ensures.words c.new-3.ensures.items c.requires.none (starts.last ∙ sym is.number) (starts.end ∙ sym is.number) starts.none_open in
    let bundles : List RedoBundle = kept_bundles run.packets in
    let kept_by : IsTrue (are_kept c.args.packets) → (opening : Opening) → IsOpeningOf o opening → KeepsBy served opening o.words.items run s t =
    λ kept opening is. c.run_all-served.ensures.kept.all kept opening o.words.items s (running opening is) (start opening is) in
    let through : IsTrue (are_kept c.args.packets) → (opening : Opening) → IsOpeningOf o opening → KeptThrough opening o.words.items run =
    λ kept opening is. through_of opening o.words.items run s t served (left opening is) (kept_by kept opening is) in
    record {
      runs = record {
        replies = λ opening is. record {
          performs = performs_in_rounds opening files performed done same collects rounds (at opening is).answered (performs.first done same sorted);
          replies = replies_of opening files performed done same collects rounds (at opening is).answered;
        };
        syncs = record {
          follow = follow_of lawful files performed done same collects rounds some;
          from = from_of lawful files performed done same collects rounds some;
          told = λ visible. syncs_of lawful files performed done same collects rounds some s u ((at lawful lawful_is).syncs visible);
        };
        moments = λ opening is. recovers_of opening files performed done same collects rounds (at opening is).answered (went_well served) o.words.items (log_durable run.log) s u (at opening is);
        end = record {
          len = (at lawful lawful_is).len;
          whole = λ whole opening is.
              let ended = sym c.end_of.ensures ∙ whole in
              let settled : IsSettledRun opening o.words.items (log_durable run.log) performed s t = on_whole served ended c.run_all-served.ensures.settled opening o.words.items s (running opening is) in
              whole_of opening files performed done same collects rounds (at opening is).answered o.words.items c.durable-last.result s u (on_whole served ended performs.all done same sorted)
              (subst (λ (v : Sight). IsSettledRun opening o.words.items c.durable-last.result performed s v) (sym still)
              (subst (λ (n : ℕ). IsSettledRun opening o.words.items n performed s t) (sym c.durable-last.ensures) settled));
          calls = λ whole.
              let makes : Makes (RunBy o.lay (record { words = words_of c.new-2.result; log = log_parts c.new.result }) performed (log_durable run.log)) (g.M.Medium.sight (log_medium c.new.result)) t = on_whole served (sym c.end_of.ensures ∙ whole) c.run_all-served.ensures.calls in
              makes_its_calls o.lay o.sizes (record { words = words_of c.new-2.result; log = log_parts c.new.result }) o.words.items (state_of o.back) performed done (log_durable run.log) c.durable-last.result (g.M.Medium.sight (log_medium c.new.result)) s t u c.requires.opened.layout
              (run_parts_are (words_of c.new-2.result) o.words.items (log_parts c.new.result) (parts (state_of o.back) None) c.new-2.ensures.words (parts_are (log_back c.new.result) (state_of o.back) (log_open c.new.result) None starts.back_is starts.none_open))
              (ap (λ m. g.M.Medium.sight m) starts.medium) still c.durable-last.ensures same rounds makes;
          few_lost = λ opening is.
              let near : EndsNearLast (most_lost (end_by served)) opening o.words.items performed s t =
              near_by opening o.words.items run s t served (log_durable run.log) run.log.log.back.room (left opening is)
              (on_ok served (λ settles. settles opening o.words.items s (running opening is)) c.run_all-served.ensures.settled) in
              subst (λ (e : RanEnd). LosesFew (most_lost e) opening o.words.items done s u) (sym c.end_of.ensures)
              (few_lost_of opening files performed done same collects rounds (at opening is).answered (most_lost (end_by served)) o.words.items s u
              (subst (λ (v : Sight). EndsNearLast (most_lost (end_by served)) opening o.words.items performed s v) (sym still) near));
          from = subst (λ (n : ℕ). o.number ≤ n) (sym c.durable-last.ensures) (at lawful lawful_is).rises;
          last_told = λ visible opening is.
              subst (λ (e : RanEnd). IsLastTold e opening c.durable-last.result s u) (sym c.end_of.ensures)
              (subst (λ (n : ℕ). IsLastTold (end_by served) opening n s u) (sym c.durable-last.ensures)
              (subst (λ (ok : Bool). WereTold ok opening.number (log_durable run.log) (state_now s).told (state_now u).told) (well_by served) ((at opening is).tells visible)));
          ran = (went_well served, (at lawful lawful_is).ran, subst (λ (e : RanEnd). (went_well served ≡ false) ↔ (e ≡ Device)) (sym c.end_of.ensures) (device_by served));
          cause = λ device.
              subst (λ (v : Sight). Risen s.faults v.faults) (sym still) (cause_by lawful o.words.items run s t served (left lawful lawful_is) (sym c.end_of.ensures ∙ device));
        };
      };
      packets = λ kept opening is.
          let th = through kept opening is in
          subst (λ (bs : List RedoBundle). Ships opening o.words.items done bs) (sym c.into_list.ensures)
          (ships_of opening files performed done same collects rounds (at opening is).answered o.words.items th.arrays th.current (log_end run.log) bundles th.has th.opening_is th.through);
      persisted = λ kept opening is.
          let th = through kept opening is in
          subst (λ (bs : List RedoBundle). KeepsUp opening o.words.items done bs s u) (sym c.into_list.ensures)
          (subst (λ (v : Sight). KeepsUp opening o.words.items done bundles s v) (sym still)
          (keeps_up_of opening files performed done same collects rounds (at opening is).answered o.words.items (log_end run.log) bundles s t
          (subst (λ (n : ℕ). AreConsecutive n bundles (log_end run.log)) th.has.first th.through.lead)
          (over_of opening o.words.items run s t served (log_durable run.log) run.log.log.back.room (left opening is) (kept_by kept opening is)
          (on_ok served (λ settles. settles opening o.words.items s (running opening is)) c.run_all-served.ensures.settled) c.run_all-served.ensures.end)));
      whole = λ kept whole.
          let th = through kept lawful lawful_is in
          let end : log_end run.log ≡ c.durable-last.result = on_whole served (sym c.end_of.ensures ∙ whole) c.run_all-served.ensures.end ∙ sym c.durable-last.ensures in
          subst (λ (bs : List RedoBundle). AreConsecutive o.number bs c.durable-last.result) (sym c.into_list.ensures)
          (subst (λ (n : ℕ). AreConsecutive o.number bundles n) end (subst (λ (n : ℕ). AreConsecutive n bundles (log_end run.log)) th.has.first th.through.lead));
    }
