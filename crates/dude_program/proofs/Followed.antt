-- What `follow` comes to, from what its follower took.
use Rattle.std.proofs.Common.{◌≡◌, ℕ, ◌+◌, Bool, true, false, IsTrue, List, [], ◌∷◌, ◌++◌, length, append-nil, append_assoc, refl, sym, ◌∙◌, ap, subst, inl, inr, arith, None}
use Rattle.std.specs.Prelude.{All}
use Rattle.std.specs.List.{AllZip}
use Rattle.std.proofs.lemmas.List.Elements.{All-cons, All-nil}
use Rattle.dude_base.specs.declared.sizes.Sizes.{Sizes}
use Rattle.dude_base.specs.Records.{RedoBundle, overwritten_by_all}
use Rattle.pmem_trait.specs.declared.medium.Medium.{Ghosts}
use Rattle.pmem_trait.specs.Words.{IsSettled}
use Rattle.pmem_trait.specs.Sights.{AtEveryMoment, Sight, state_now}
use Rattle.pmem_trait.specs.Reads.{ContentHas}
use Rattle.pmem_trait.proofs.Laws.{every_moment_then, every_moment_weaker}
use Rattle.back_store.specs.Back.{BackState, idle}
use Rattle.back_store.specs.Operations.{MakesOperations, OperatesLog, OperatesLog.rests}
use Rattle.back_store.specs.Answers.{announced}
use Rattle.back_store.proofs.Operations.{one_announces, one_persists, one_reproduces, operates_then}
use Rattle.log_numbered.specs.LogCalls.{SettledBy, settled}
use Rattle.pmem_trait.specs.declared.call.Call.{Call}
use Rattle.redo_record.specs.Recovery.{AreConsecutive, Recovers}
use Rattle.dude_io.specs.Files.{FilesSight}
use Rattle.dude_io.specs.declared.file_text.FileText.{FileText}
use Rattle.dude_io.specs.declared.file_text.FileText.TheVariants.{Whole, TooLong}
use Rattle.image_recovery.specs.Recovered.{RecoversArray}
use Rattle.dude_follow.specs.declared.follower.Follower.{Follower}
use Rattle.dude_follow.specs.declared.taken.Taken.{Taken}
use Rattle.dude_follow.specs.declared.taken.Taken.TheVariants as taken
use Rattle.dude_follow.specs.Applying.{AppliedBy, AppliedBy.none, AppliedBy.next, HoldsArray, RecoversAlong}
use Rattle.dude_follow.specs.Follower.{follower_back, follower_room, follower_sight, follower_state}
use Rattle.dude_follow.specs.Taking.{FollowerState, Follows, Follows.none, Takes}
use Rattle.dude_follow.proofs.Chains.{along_more}
use Rattle.dude_follow.proofs.TakenPackets.{moments_none}
use Rattle.command_edges.specs.CommandFile.{packet_files}
use Rattle.command_edges.specs.declared.file_kind.FileKind.TheVariants.{Packets}
use Rattle.command_edges.specs.Files.{IsGoodFile}
use Rattle.command_edges.specs.Reads.{ReadsInOrder}
use Rattle.command_edges.specs.Texts.{IsTextOf}
use Rattle.command_edges.specs.declared.fault.Fault.{Fault}
use Rattle.command_edges.specs.declared.fault.Fault.TheVariants as fault
use Rattle.command_edges.proofs.Told.{file_is_there, long_file, some_is}
use Rattle.command_edges.proofs.Zips.{AllZip-more, AllZip-then, Splits, splits}
use Rattle.command_edges.specs.Command.{Meaning.FollowFiles}
use Rattle.dude_program.specs.Delivery.{FOLLOWER_ROOM, HoldsBadPacket, HoldsPackets, IsFirstBadPacket, IsFirstStrange, TakesFiles, follower_at, packets_in}
use Rattle.dude_program.specs.Follow.{AppliesInOrder, AreFirstPackets, ImagesRecover}
use Rattle.dude_program.specs.Taking.{IsBadAsPackets, MeansPackets, StopsInText, StopsInTexts, TakesAll, TakesPackets}
use Rattle.dude_program.proofs.FilesRead.{FilesRead}
use Rattle.dude_program.proofs.TakenPackets.{packets_more}
use Rattle.dude_program.proofs.ArrayMoments.{one_array}

-- ---- what texts say of their files

pub holds_packets : (sizes : Sizes) (f : FilesSight) (name : List ℕ) (text : FileText) (packets : List RedoBundle) → IsTextOf f (record { name = name; kind = Packets }) text → MeansPackets sizes text packets
    → HoldsPackets sizes f name packets
holds_packets sizes f name (Whole bytes) packets is means = record { text = bytes.items; are = means; short = is.1; of_file = λ visible. some_is (f.text name) bytes.items (is.0 visible) }
holds_packets sizes f name TooLong packets is means = absurd means

pub holds_bad : (sizes : Sizes) (f : FilesSight) (name : List ℕ) (text : FileText) (packet : ℕ) → IsTextOf f (record { name = name; kind = Packets }) text → IsBadAsPackets sizes text packet
    → HoldsBadPacket sizes f name packet
holds_bad sizes f name (Whole bytes) packet is bad = record { text = bytes.items; bad = inr (is.1, bad); of_file = λ visible. some_is (f.text name) bytes.items (is.0 visible) }
holds_bad sizes f name TooLong packet is bad =
    let long = long_file f.is_visible (f.text name) is.0 in
    record { text = long.0; bad = inl (long.1, bad); of_file = long.2 }

-- a file of packets is there
all_there : (f : FilesSight) (names : List (List ℕ)) (texts : List FileText) → AllZip (IsTextOf f) (packet_files names) texts → All (IsGoodFile f) (packet_files names)
all_there f [] [] read = All-nil (IsGoodFile f)
all_there f [] (text ∷ texts) read = absurd read
all_there f (name ∷ names) [] read = absurd read
all_there f (name ∷ names) (text ∷ texts) read =
    All-cons (IsGoodFile f) (record { name = name; kind = Packets }) (packet_files names) (λ visible. file_is_there f (record { name = name; kind = Packets }) text read.0 visible) (all_there f names texts read.1)

pub packet_files_read : (names : List (List ℕ)) {f g : FilesSight} (texts : List FileText) → AllZip (IsTextOf f) (packet_files names) texts → ReadsInOrder (packet_files names) None f g → FilesRead (FollowFiles names) f g
packet_files_read names {f} texts read reads = record { good = all_there f names texts read; reads = reads }

-- ---- behind the opening

-- These packets are the first of the files, and the follower took them.
pub record Delivered {M : Type 0} {ghosts : Ghosts M} (sizes : Sizes) (names : List (List ℕ)) (f : FilesSight) (start end : Follower M ghosts) : Type 0 where
  pub packets : List RedoBundle
  pub first : AreFirstPackets sizes f names packets
  pub ok : Bool
  pub taken : TakesPackets packets ok start end

module _ {M : Type 0} {ghosts : Ghosts M} (sizes : Sizes) (number : ℕ) (names : List (List ℕ)) (f : FilesSight) (start end : Follower M ghosts)
    (state : follower_state start ≡ follower_at number) (room : follower_room start ≡ FOLLOWER_ROOM) where
  pub from_start : {packets : List RedoBundle} {answers : List Taken} {records : List RedoBundle} {after : FollowerState} → Follows (follower_room start) (follower_state start) packets answers records after
      → Follows FOLLOWER_ROOM (follower_at number) packets answers records after
  from_start {packets} {answers} {records} {after} follows =
      subst (λ (r : ℕ). Follows r (follower_at number) packets answers records after) room (subst (λ (s : FollowerState). Follows (follower_room start) s packets answers records after) state follows)

  abbrev pub takes_files : (some : List (List ℕ)) (each : List (List RedoBundle)) (dropped : ℕ) → AllZip (HoldsPackets sizes f) some each → TakesAll (packets_in each) dropped start end → TakesFiles sizes number f some
  takes_files some each dropped read all = record {
    each = each;
    read = read;
    answers = all.0.answers;
    records = all.0.records;
    after = all.0.after;
    follows = from_start all.0.follows;
    none_strange = all.1;
  }

  -- all texts were taken
  module _ (texts : List FileText) (read : AllZip (λ name text. IsTextOf f (record { name = name; kind = Packets }) text) names texts) where
    pub held : (each : List (List RedoBundle)) → AllZip (MeansPackets sizes) texts each → AllZip (HoldsPackets sizes f) names each
    held each means = AllZip-then (λ name text. IsTextOf f (record { name = name; kind = Packets }) text) (MeansPackets sizes) (HoldsPackets sizes f) names texts each
        (λ name text packets is mean. holds_packets sizes f name text packets is mean) read means

    pub all_delivered : (each : List (List RedoBundle)) (dropped : ℕ) → AllZip (MeansPackets sizes) texts each → TakesAll (packets_in each) dropped start end → Delivered sizes names f start end
    all_delivered each dropped means all = record {
      packets = packets_in each;
      first = record { earlier = names; later = []; split = sym (append-nil names); each = each; read = held each means; rest = []; parts = sym (append-nil (packets_in each)) };
      ok = true;
      taken = all.0;
    }

    abbrev pub all_files : (each : List (List RedoBundle)) (dropped : ℕ) → AllZip (MeansPackets sizes) texts each → TakesAll (packets_in each) dropped start end → TakesFiles sizes number f names
    all_files each dropped means all = takes_files names each dropped (held each means) all

    -- or why not
    module _ (why : Fault) (stops : StopsInTexts sizes texts why start end) where
      abbrev pub parts : Splits (λ name text. IsTextOf f (record { name = name; kind = Packets }) text) names stops.earlier stops.text
      parts = splits (λ name text. IsTextOf f (record { name = name; kind = Packets }) text) names stops.earlier stops.text stops.later
          (subst (λ (l : List FileText). AllZip (λ name text. IsTextOf f (record { name = name; kind = Packets }) text) names l) stops.split read)

      pub held_front : AllZip (HoldsPackets sizes f) parts.front stops.each
      held_front = AllZip-then (λ name text. IsTextOf f (record { name = name; kind = Packets }) text) (MeansPackets sizes) (HoldsPackets sizes f) parts.front stops.earlier stops.each
          (λ name text packets is mean. holds_packets sizes f name text packets is mean) parts.fronts stops.read

      front_delivered : (dropped : ℕ) → TakesAll (packets_in stops.each) dropped start end → Delivered sizes names f start end
      front_delivered dropped all = record {
        packets = packets_in stops.each;
        first = record { earlier = parts.front; later = parts.this ∷ parts.rest; split = parts.parts; each = stops.each; read = held_front; rest = []; parts = sym (append-nil (packets_in stops.each)) };
        ok = true;
        taken = all.0;
      }

      -- of the packets of one file more the first ones
      part_delivered : (packets front rest : List RedoBundle) (ok : Bool) → MeansPackets sizes stops.text packets → packets ≡ front ++ rest → TakesPackets (packets_in stops.each ++ front) ok start end → Delivered sizes names f start end
      part_delivered packets front rest ok means split takes = record {
        packets = packets_in stops.each ++ front;
        first = record {
          earlier = parts.front ++ parts.this ∷ [];
          later = parts.rest;
          split = parts.parts ∙ sym (append_assoc parts.front (parts.this ∷ []) parts.rest);
          each = stops.each ++ packets ∷ [];
          read = AllZip-more (HoldsPackets sizes f) parts.front stops.each parts.this packets held_front (holds_packets sizes f parts.this stops.text packets parts.both means);
          rest = rest;
          parts = packets_more stops.each packets ∙ (ap (λ (l : List RedoBundle). packets_in stops.each ++ l) split ∙ sym (append_assoc (packets_in stops.each) front rest));
        };
        ok = ok;
        taken = takes;
      }

      pub counted : (file : ℕ) → file ≡ length stops.earlier + 1 → file ≡ length parts.front + 1
      counted file is = let long = parts.same_length in omega (arith, is, long)

      pub stopped_delivered : (why_is : Fault) → why ≡ why_is → StopsInText sizes (packets_in stops.each) stops.text (length stops.earlier + 1) why_is start end → Delivered sizes names f start end
      stopped_delivered (fault.Text file row field) is by = front_delivered by.1.0 by.1.1
      stopped_delivered fault.Memory is by = front_delivered by.0 by.1
      stopped_delivered (fault.Strange file packet) is by =
          let s = by.2.1 in
          part_delivered by.0 s.earlier (s.strange ∷ s.later) true by.1 s.split s.taken.0
      stopped_delivered fault.Device is by = part_delivered by.0 by.2.earlier by.2.later false by.1 by.2.split by.2.taken
      stopped_delivered other is by = absurd by.2

      -- a bad packet, or a strange one
      abbrev pub stopped_bad : (file row field : ℕ) → StopsInText sizes (packets_in stops.each) stops.text (length stops.earlier + 1) (fault.Text file row field) start end
          → IsFirstBadPacket sizes number f names file row × (field ≡ 0)
      stopped_bad file row field by = (
        record {
          behind = record {
            earlier = parts.front;
            name = parts.this;
            counted = counted file by.0.0;
            later = parts.rest;
            split = parts.parts;
            taken = takes_files parts.front stops.each by.1.0 held_front by.1.1;
          };
          bad = holds_bad sizes f parts.this stops.text row parts.both by.0.2;
        },
        by.0.1,
      )

      abbrev pub stopped_strange : (file packet : ℕ) → StopsInText sizes (packets_in stops.each) stops.text (length stops.earlier + 1) (fault.Strange file packet) start end
          → IsFirstStrange sizes number f names file packet
      stopped_strange file packet by =
          let s = by.2.1 in
          record {
            earlier_names = parts.front;
            name = parts.this;
            later_names = parts.rest;
            split = parts.parts;
            counted_file = counted file by.2.0;
            each = stops.each;
            read = held_front;
            earlier = s.earlier;
            strange = s.strange;
            later = s.later;
            holds = holds_packets sizes f parts.this stops.text (s.earlier ++ s.strange ∷ s.later) parts.both (subst (MeansPackets sizes stops.text) s.split by.1);
            counted = s.counted;
            answers = s.taken.0.answers;
            records = s.taken.0.records;
            after = s.taken.0.after;
            follows = from_start s.taken.0.follows;
            none_strange = s.taken.1;
            is_strange = subst (λ (r : ℕ). Takes r s.taken.0.after s.strange taken.Strange [] s.taken.0.after) room s.is_strange;
          }

-- ---- what every image recovers to

-- nothing was taken
pub applies_none : (sizes : Sizes) (number : ℕ) (array : List ℕ) (names : List (List ℕ)) (f : FilesSight) (s t : Sight)
    → AtEveryMoment (RecoversAlong sizes number [] array (length (state_now s).told)) s t → AppliesInOrder sizes number array names f s t
applies_none sizes number array names f s t moments = record {
  packets = [];
  first = record { earlier = []; later = names; split = refl; each = []; read = tt; rest = []; parts = refl };
  answers = [];
  records = [];
  after = follower_at number;
  follows = none;
  moments = moments;
}

module _ {M : Type 0} {ghosts : Ghosts M} (sizes : Sizes) (number : ℕ) (array : List ℕ) (names : List (List ℕ)) (f : FilesSight) (s m : Sight) (start end : Follower M ghosts)
    (state : follower_state start ≡ follower_at number) (room : follower_room start ≡ FOLLOWER_ROOM) (back : follower_back start ≡ idle sizes number) (sight : follower_sight start ≡ m)
    (holds : HoldsArray (length (state_now s).told) (follower_back start) array (follower_sight start))
    (opened : AtEveryMoment (RecoversAlong sizes number [] array (length (state_now s).told)) s m) where
  pub applies_delivered : Delivered sizes names f start end → AppliesInOrder sizes number array names f s (follower_sight end)
  applies_delivered d =
      let t = d.taken in
      let through = t.moments (length (state_now s).told) array holds in
      let behind = subst (λ (v : BackState). AtEveryMoment (RecoversAlong v.log.sizes v.log.reproduced t.records array (length (state_now s).told)) (follower_sight start) (follower_sight end)) back through in
      record {
        packets = d.packets;
        first = d.first;
        follows = from_start sizes number names f start end state room t.follows;
        answers = t.answers;
        records = t.records;
        after = t.after;
        moments = every_moment_then (every_moment_weaker (λ told image long along. along_more sizes number [] t.records array (length (state_now s).told) told image along) opened)
            (subst (λ (u : Sight). AtEveryMoment (RecoversAlong sizes number t.records array (length (state_now s).told)) u (follower_sight end)) sight behind);
      }

-- so it is said of whatever the content recovers to
pub applies_as : (s t : Sight) (names : List (List ℕ)) (f : FilesSight) {sizes z : Sizes} {number n : ℕ} {words l : List ℕ} → (IsTrue s.is_visible → IsSettled s.len (state_now s))
    → ContentHas (RecoversArray sizes number words) s → ContentHas (RecoversArray z n l) s → IsTrue s.is_visible → AppliesInOrder z n l names f s t → AppliesInOrder sizes number words names f s t
applies_as s t names f {sizes} {z} {number} {n} {words} {l} settled recovered own visible applies =
    let same = one_array s settled recovered visible own in
    subst (λ (z : Sizes). AppliesInOrder z number words names f s t) (sym same.2)
    (subst (λ (n : ℕ). AppliesInOrder z n words names f s t) (sym same.0)
    (subst (λ (l : List ℕ). AppliesInOrder z n l names f s t) (sym same.1) applies))

-- an image that recovers along no packet
along_none : {sizes : Sizes} {number : ℕ} {array : List ℕ} {before : ℕ} {told image : List ℕ} → RecoversAlong sizes number [] array before told image → RecoversArray sizes number array image
along_none {number = number} {array = array} {image = image} along = record { recovered = by along.front along.split along.lead along.recovered; same_sizes = along.same_sizes }
  where
    by : (front : List RedoBundle) → ◌≡◌ {A = List RedoBundle} [] (front ++ along.rest) → AreConsecutive number front along.number → Recovers image along.number (overwritten_by_all front array)
        → Recovers image number array
    by [] split lead recovered = subst (λ (n : ℕ). Recovers image n array) (sym lead) recovered
    by (b ∷ front) split lead recovered = absurd (let no : ⊥ = cc in no)

-- where all was taken every image recovers at the end to what the packets applied make of the array
pub ends_applied : {M : Type 0} {ghosts : Ghosts M} (sizes : Sizes) (number before : ℕ) (array : List ℕ) {packets : List RedoBundle} (start end : Follower M ghosts) → follower_back start ≡ idle sizes number
    → HoldsArray before (follower_back start) array (follower_sight start) → (t : TakesPackets packets true start end) → IsTrue (follower_sight end).is_visible
    → ImagesRecover sizes t.after.number (overwritten_by_all t.records array) (follower_sight end)
ends_applied sizes number before array start end back holds t visible =
    let made : List ℕ = overwritten_by_all t.records array in
    let u : Sight = follower_sight end in
    let here = moments_none (follower_back end) u (t.rests refl) end.replica.back.room before made ((t.applies refl).overwrites before array holds) in
    let own : AtEveryMoment (RecoversAlong sizes t.after.number [] made before) u u =
    subst (λ (n : ℕ). AtEveryMoment (RecoversAlong sizes n [] made before) u u) (ap (λ (x : FollowerState). x.number) (t.state refl))
    (subst (λ (z : Sizes). AtEveryMoment (RecoversAlong z (follower_back end).log.reproduced [] made before) u u) (t.parts.sizes ∙ ap (λ (v : BackState). v.log.sizes) back) here) in
    record { each = λ image is. along_none ((own.each visible u.now (omega arith) (omega arith)).each image is) }

-- ---- the calls

settles : {v : BackState} {number : ℕ} {calls : List Call} → SettledBy v number calls → OperatesLog v (settled v number) calls
settles {v} {number} {calls} by =
    subst (λ (l : List Call). OperatesLog v (settled v number) l) (sym by.calls_are) (operates_then (one_announces v number) (one_reproduces (announced v number) number by.home))

applied_operates : {packets : List RedoBundle} {v w : BackState} {calls : List Call} → AppliedBy packets v w calls → OperatesLog v w calls
applied_operates none = rests
applied_operates (next persisting settling calls persisted home rest) = operates_then (operates_then (one_persists persisted) (settles home)) (applied_operates rest)

-- the calls of packets that were applied are operations of the log
pub taken_operates : {M : Type 0} {ghosts : Ghosts M} (sizes : Sizes) (number : ℕ) (packets : List RedoBundle) (start end : Follower M ghosts) → follower_back start ≡ idle sizes number → TakesPackets packets true start end
    → MakesOperations (idle sizes number) (follower_sight start) (follower_sight end)
taken_operates sizes number packets start end back t =
    let calls = (t.applies refl).calls in
    subst (λ (v : BackState). MakesOperations v (follower_sight start) (follower_sight end)) back (follower_back end, (calls.0, applied_operates calls.1, calls.2))
