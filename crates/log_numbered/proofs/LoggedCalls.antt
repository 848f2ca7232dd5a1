-- The calls by which a log announces, settles and appends.
use Rattle.std.proofs.Common.{◌≡◌, ℕ, ◌+◌, true, IsTrue, ◌++◌, Option, Some, None, Ok, refl, ap, ◌∙◌, subst, inr}
use Rattle.dude_base.specs.Records.{RedoBundle, RedoRecord, bundle_of, first_of}
use Rattle.pmem_trait.specs.Sights.{Sight, state_now, CallsMade}
use Rattle.pmem_trait.proofs.Runs.{made_then}
use Rattle.redo_record.specs.BackCalls.{announce_calls}
use Rattle.redo_record.proofs.WaitingRecords.{waiting_law}
use Rattle.log_ring.specs.Ring.{next_head}
use Rattle.back_store.specs.Lanes.{lane_at}
use Rattle.back_store.specs.Backlog.{IsLawful}
use Rattle.back_store.specs.Back.{BackState, IsEnd, IsRingFull, waiting_now}
use Rattle.back_store.specs.Answers.{Announces, Reproduces, announced, reproduced}
use Rattle.log_numbered.specs.declared.open_bundle.OpenBundle.{OpenBundle}
use Rattle.back_store.specs.Operations.{BroughtHomeBy, Makes, PersistedBy}
use Rattle.log_numbered.specs.LogCalls.{AnnouncedBy, AppendedBy, BundlePersistedBy, CheckpointedBy, ClosedBy, Joins, LogParts, SettledBy, settled}
use Rattle.back_store.proofs.NoTells.{append_tells_nothing, told_same}

-- the number announced is the one to which the records lead
pub announced_by : (v : BackState) (number last : ℕ) (s t : Sight) → IsLawful v.log → IsEnd v last → Announces v (Ok number) s t → CallsMade (announce_calls last) true s t
announced_by v number last s t lawful end a =
    let same : a.end ≡ last = waiting_law.one_end (waiting_now v) v.log.reproduced a.end last lawful.lanes.distinct a.is_end end in
    subst (λ n. CallsMade (announce_calls n) true s t) same a.made

-- the records up to this number are reproduced
pub reproduced_by : (v : BackState) (last number : ℕ) (s t : Sight) (stop : ℕ) → stop ≡ last → Reproduces v stop (Ok number) s t → Makes (BroughtHomeBy v last) s t
reproduced_by v last number s t stop same r = (r.calls, subst (λ n. BroughtHomeBy v n r.calls) same r.by, r.made)

-- an announcement, and then a reproduction
pub settled_by : (v w : BackState) (last reached : ℕ) (s t u : Sight) → IsEnd v last → CallsMade (announce_calls last) true s t → w ≡ announced v last → reached ≡ last → Makes (BroughtHomeBy w reached) t u → Makes (SettledBy v last) s u
settled_by v w last reached s t u end announcing is same home = (
  announce_calls last ++ home.0,
  record {
    is_end = end;
    reproducing = home.0;
    home = subst (λ x. BroughtHomeBy x last home.0) is (subst (λ n. BroughtHomeBy w n home.0) same home.1);
    calls_are = refl;
  },
  made_then announcing home.2,
)

pub settled_back : (v w x : BackState) (last reached : ℕ) → w ≡ announced v last → reached ≡ last → x ≡ reproduced w reached → x ≡ settled v last
settled_back v w x last reached is same after = after ∙ ap (λ n. reproduced w n) same ∙ ap (λ y. reproduced y last) is

-- a settlement, seen from an equal log
pub settled_same : (w v : BackState) (reached last : ℕ) (t s u : Sight) → w ≡ v → reached ≡ last → t ≡ s → Makes (SettledBy w reached) t u → Makes (SettledBy v last) s u
settled_same w v reached last t s u is same sight makes =
    (makes.0, subst (λ x. SettledBy x last makes.0) is (subst (λ n. SettledBy w n makes.0) same makes.1), subst (λ x. CallsMade makes.0 true x u) sight makes.2)

-- a record put in its ring, behind a settlement
pub appended_behind : (ring : ℕ) (r : RedoBundle) (v m w : BackState) (last : ℕ) (s t u : Sight) → IsRingFull v ring r → first_of r ≡ last + 1 → m ≡ settled v last → Makes (SettledBy v last) s t
    → Makes (PersistedBy ring r m w) t u → Makes (BundlePersistedBy ring r v w) s u
appended_behind ring r v m w last s t u full next is settling persisting = (
  settling.0 ++ persisting.0,
  inr (record {
    full = full;
    last = last;
    next = next;
    settling = settling.0;
    settled_by = settling.1;
    persisting = persisting.0;
    persisted_by = subst (λ y. PersistedBy ring r y w persisting.0) is persisting.1;
    calls_are = refl;
  }),
  made_then settling.2 persisting.2,
)

-- where the ring has room nothing is told
pub persisted_untold : (ring : ℕ) (r : RedoBundle) (v w : BackState) (s t : Sight) → Makes (PersistedBy ring r v w) s t → IsTrue s.is_visible → (state_now t).told ≡ (state_now s).told
persisted_untold ring r v w s t makes visible =
    told_same (subst (λ calls. CallsMade calls true s t) makes.1.calls_are makes.2) (append_tells_nothing v.log.sizes (next_head (lane_at v.log.lanes ring).ring) r) visible

-- ---- behind the closing of an open bundle

abbrev pub parts : BackState → Option OpenBundle → LogParts
parts back current = record { back = back; current = current }

pub parts_are : (v w : BackState) (x y : Option OpenBundle) → v ≡ w → x ≡ y → parts v x ≡ parts w y
parts_are v w x y back current = ap (λ (u : BackState). parts u x) back ∙ ap (λ (z : Option OpenBundle). parts w z) current

pub announced_behind : (k l : LogParts) (m : BackState) (end last : ℕ) (s t u : Sight) → end ≡ last → Makes (ClosedBy k.current k.back m) s t → l ≡ parts (announced m end) None → CallsMade (announce_calls end) true t u
    → Makes (AnnouncedBy k last l) s u
announced_behind k l m end last s t u same closing now made = (
  closing.0 ++ announce_calls last,
  record {
    back = m;
    closing = closing.0;
    closed_by = closing.1;
    now = now ∙ ap (λ (n : ℕ). parts (announced m n) None) same;
    calls_are = refl;
  },
  made_then closing.2 (subst (λ (n : ℕ). CallsMade (announce_calls n) true t u) same made),
)

pub checkpointed_behind : (k l : LogParts) (m : BackState) (end last : ℕ) (s t u : Sight) → end ≡ last → Makes (ClosedBy k.current k.back m) s t → l ≡ parts (settled m end) None → Makes (SettledBy m end) t u
    → Makes (CheckpointedBy k last l) s u
checkpointed_behind k l m end last s t u same closing now settling = (
  closing.0 ++ settling.0,
  record {
    back = m;
    closing = closing.0;
    closed_by = closing.1;
    settling = settling.0;
    settled_by = subst (λ (n : ℕ). SettledBy m n settling.0) same settling.1;
    now = now ∙ ap (λ (n : ℕ). parts (settled m n) None) same;
    calls_are = refl;
  },
  made_then closing.2 settling.2,
)

-- a record begins a bundle
pub begun_calls : (ring : ℕ) (r : RedoRecord) (k l : LogParts) (s t : Sight) → ((o : OpenBundle) → k.current ≡ Some o → Joins k.back.log.sizes.cells o r → ⊥) → Makes (ClosedBy k.current k.back l.back) s t
    → l.current ≡ Some (record { ring = ring; bundle = bundle_of r }) → Makes (AppendedBy ring r k l) s t
begun_calls ring r k l s t apart closing now = (closing.0, inr (record { apart = apart; closed_by = closing.1; now = now }), closing.2)
