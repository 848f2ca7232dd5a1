-- What images recover to, by the records that are listed.
use Rattle.std.proofs.Common.{◌≡◌, ℕ, false, List, ◌++◌, sym, subst, arith}
use Rattle.dude_base.specs.declared.sizes.Sizes.{Sizes}
use Rattle.dude_base.specs.Records.{RedoRecord}
use Rattle.redo_record.specs.Waiting.{IsArrayAt}
use Rattle.redo_record.specs.LogState.{RecoversAmong}
use Rattle.redo_record.proofs.WaitingRecords.{consecutive_up}
use Rattle.back_store.specs.Backlog.{log_of}
use Rattle.back_store.specs.Back.{waiting_now}
use Rattle.stm_slots.specs.Records.{AreNew, HasValues, writes_in}
use Rattle.stm_slots.specs.KnownLists.{BackLists, LawfulLists, LiveLists}
use Rattle.stm_slots.specs.Known.{Since, told_before, RecoversIn}
use Rattle.stm_slots.proofs.JoinedRecords.{reached_more}
use Rattle.stm_slots.proofs.Lawful.{reached_by}
use Rattle.stm_slots.proofs.Values.{values_more, values_behind_all}

-- the array at a number has the values there
pub array_values : (opening : List ℕ) (first : ℕ) (l : BackLists) → LiveLists first l → (home : List ℕ) (n : ℕ) (array : List ℕ) → HasValues opening (writes_in l.records) l.state.log.reproduced home
    → IsArrayAt (waiting_now l.state) l.state.log.reproduced home n array → HasValues opening (writes_in l.records) n array
array_values opening first l live home n array values is =
    subst (HasValues opening (writes_in l.records) n) (sym is.result)
    (values_behind_all opening l.records l.state.log.reproduced n is.records home values is.lead.consecutive
    (λ k d lt. live.waits _ (is.lead.wait k d lt).is_one))

-- an image that recovers by the log does so by the records
pub recovers_in : (b : Since) (l : BackLists) → LawfulLists b.first l → l.state.dead ≡ false → (home : List ℕ) → HasValues b.opening (writes_in l.records) l.state.log.reproduced home → (low high : ℕ) (told image : List ℕ)
    → RecoversAmong (log_of l.state.log home) (told_before b) low high told image → RecoversIn b l.records l.state.log.sizes told image
recovers_in b l lawful alive home values low high told image is =
    let a = is.is_array in
    let up = consecutive_up l.state.log.reproduced is.number a.records a.lead.consecutive in
    record {
      number = is.number;
      array = is.array;
      recovered = is.recovered;
      same_sizes = is.same_sizes;
      values = array_values b.opening b.first l (lawful.live alive) home is.number is.array values a;
      from = (let from = lawful.from in omega arith);
      reached = reached_by b.first l lawful alive is.number a.records a.lead;
      floor = is.floor;
    }

-- with new records it recovers so still
pub recovers_more : (b : Since) (more rs : List RedoRecord) (sizes : Sizes) → AreNew b.first rs more → (told image : List ℕ) → RecoversIn b rs sizes told image → RecoversIn b (more ++ rs) sizes told image
recovers_more b more rs sizes new told image is = record {
  number = is.number;
  array = is.array;
  recovered = is.recovered;
  same_sizes = is.same_sizes;
  values = values_more b.opening b.first more rs is.number is.array new is.reached is.values;
  from = is.from;
  reached = reached_more b.first is.number more rs is.reached;
  floor = is.floor;
}
