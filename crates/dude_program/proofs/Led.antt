-- A follower whose packets are a leader's: what every image recovers to, that none is strange, and how far it comes.
use Rattle.std.proofs.Common.{◌≡◌, ◌≢◌, ℕ, ◌+◌, IsTrue, List, [], ◌∷◌, ◌++◌, length, append_assoc, refl, sym, ◌∙◌, subst, Option, Some}
use Rattle.std.specs.Prelude.{All}
use Rattle.std.specs.List.{AllZip, Contains}
use Rattle.std.proofs.lemmas.List.Elements.{All-append, All-cons, All-head, All-nil, All-tail, Contains-append_left}
use Rattle.dude_base.specs.declared.sizes.Sizes.{Sizes}
use Rattle.dude_base.specs.Records.{RedoBundle, first_of, overwritten_by_all}
use Rattle.pmem_trait.specs.Sights.{AtEveryMoment, state_now}
use Rattle.pmem_trait.specs.Reads.{ContentHas}
use Rattle.pmem_trait.proofs.Laws.{every_moment_weaker}
use Rattle.redo_record.specs.Recovery.{AreConsecutive}
use Rattle.dude_io.specs.Files.{FilesSight}
use Rattle.image_recovery.specs.Recovered.{RecoversArray}
use Rattle.image_recovery.proofs.OneRecovery.{same_replay}
use Rattle.dude_follow.specs.declared.taken.Taken.{Taken}
use Rattle.dude_follow.specs.declared.taken.Taken.TheVariants as taken
use Rattle.dude_follow.specs.Following.{HasApplied, IsDropAnswer, IsReached, IsStrangeAnswer, Leader}
use Rattle.dude_follow.specs.LeaderImages.{RecoversToLeader}
use Rattle.dude_follow.specs.Taking.{FollowerState, Follows}
use Rattle.dude_follow.proofs.FollowingLaws.{arrays, following, reaching}
use Rattle.dude_follow.proofs.LeaderImagesLaw.{images}
use Rattle.dude_follow.proofs.Leading.{contains_first, contains_later}
use Rattle.command_edges.specs.declared.fault.Fault.{Fault}
use Rattle.command_edges.specs.declared.fault.Fault.TheVariants.{Strange}
use Rattle.command_edges.proofs.Zips.{AllZip-more}
use Rattle.command_openings.specs.Openings.{IsOpeningOn}
use Rattle.command_openings.proofs.OneOpening.{content_of}
use Rattle.dude_engine.specs.Opening.{Opening}
use Rattle.dude_program.specs.World.{World}
use Rattle.dude_program.specs.Delivery.{FOLLOWER_ROOM, HoldsPackets, IsFirstStrange, follower_at, packets_in}
use Rattle.dude_program.specs.Follow.{AppliesInOrder, DeliversOf, FollowedAll, FollowsFiles, IsLed, RefusedDelivery, RunsFollower}
use Rattle.dude_program.specs.Headline.{TookAll}
use Rattle.dude_program.proofs.TakenPackets.{follows_one, follows_then, packets_more}

-- the packets behind the first ones lead on from where those lead to
consecutive_behind : (first mid last : ℕ) (xs ys : List RedoBundle) → AreConsecutive first (xs ++ ys) last → AreConsecutive first xs mid → AreConsecutive mid ys last
consecutive_behind first mid last [] ys all here = subst (λ (n : ℕ). AreConsecutive n ys last) here all
consecutive_behind first mid last (x ∷ xs) ys all here = consecutive_behind x.last mid last xs ys all.1 here.1

-- what holds of the packets of each file holds of all
each_packet : (P : RedoBundle → Type 0) (sizes : Sizes) (f : FilesSight) (names : List (List ℕ)) (each : List (List RedoBundle)) → AllZip (HoldsPackets sizes f) names each
    → ((name : List ℕ) (packets : List RedoBundle) → Contains names name → HoldsPackets sizes f name packets → All P packets) → All P (packets_in each)
each_packet P sizes f [] [] both holds = All-nil P
each_packet P sizes f [] (packets ∷ each) both holds = absurd both
each_packet P sizes f (name ∷ names) [] both holds = absurd both
each_packet P sizes f (name ∷ names) (packets ∷ each) both holds =
    All-append P packets (packets_in each) (holds name packets (contains_first name names) both.0)
    (each_packet P sizes f names each both.1 (λ other own is. holds other own (contains_later name names other is)))

-- the packets of files, and the first ones of one file more
packets_parts : (each : List (List RedoBundle)) (earlier : List RedoBundle) (b : RedoBundle) (later : List RedoBundle)
    → packets_in (each ++ (earlier ++ b ∷ later) ∷ []) ≡ ((packets_in each ++ earlier) ++ b ∷ []) ++ later
packets_parts each earlier b later =
    packets_more each (earlier ++ b ∷ later) ∙ (sym (append_assoc (packets_in each) earlier (b ∷ later)) ∙ sym (append_assoc (packets_in each ++ earlier) (b ∷ []) later))

all_front : (P : RedoBundle → Type 0) (xs ys : List RedoBundle) → All P (xs ++ ys) → All P xs
all_front P [] ys all = All-nil P
all_front P (x ∷ xs) ys all = All-cons P x xs (All-head P x (xs ++ ys) all) (all_front P xs ys (All-tail P x (xs ++ ys) all))

all_last : (P : Taken → Type 0) (xs : List Taken) (x : Taken) → All P (xs ++ x ∷ []) → P x
all_last P [] x all = All-head P x [] all
all_last P (y ∷ xs) x all = all_last P xs x (All-tail P y (xs ++ x ∷ []) all)

module _ (l : Leader) (opening : List ℕ) (names : List (List ℕ)) (old new : World) (d : DeliversOf l opening names old) where
  abbrev start : FollowerState
  start = follower_at d.number

  abbrev array : List ℕ
  array = overwritten_by_all d.front opening

  applied : HasApplied l d.front start
  applied = record {
    rest = d.rest;
    split = d.split;
    before = d.upto;
    behind = consecutive_behind l.first d.number l.last d.front d.rest (subst (λ (ps : List RedoBundle). AreConsecutive l.first ps l.last) d.split l.consecutive) d.upto;
    kept = All-nil (Contains d.rest);
    none_next = All-nil (λ (c : RedoBundle). first_of c ≢ d.number + 1);
  }

  -- the packets of files are the leader's
  theirs : (some : List (List ℕ)) (each : List (List RedoBundle)) → ((name : List ℕ) → Contains some name → Contains names name) → AllZip (HoldsPackets d.sizes old.files) some each → All (Contains l.packets) (packets_in each)
  theirs some each among read = each_packet (Contains l.packets) d.sizes old.files some each read (λ name packets is holds. d.delivered name packets (among name is) holds)

  -- an opening of the medium is at the number and of the sizes
  same_opening : (o : Opening) → IsOpeningOn old.medium o → (o.number ≡ d.number) × (o.sizes ≡ d.sizes)
  same_opening o starts =
      let content = content_of old.medium in
      let a = starts d.visible content.0 content.1 in
      let b = d.recovers d.visible content.0 content.1 in
      ((same_replay content.0 o.number d.number a.array array a.recovered b.recovered).0, sym a.same_sizes ∙ b.same_sizes)

  -- every image recovers to the leader's array
  led_moments : AppliesInOrder d.sizes d.number array names old.files old.medium new.medium → AtEveryMoment (RecoversToLeader l opening (length (state_now old.medium).told)) old.medium new.medium
  led_moments applies =
      let among = λ (name : List ℕ) (is : Contains applies.first.earlier name). subst (λ (all : List (List ℕ)). Contains all name) (sym applies.first.split) (Contains-append_left applies.first.earlier applies.first.later name is) in
      let all = theirs applies.first.earlier applies.first.each among applies.first.read in
      let own = all_front (Contains l.packets) applies.packets applies.first.rest (subst (All (Contains l.packets)) applies.first.parts all) in
      let law = following l FOLLOWER_ROOM d.front applies.packets applies.records applies.answers start applies.after applied own applies.follows in
      every_moment_weaker (λ told image long along. images l opening array d.front applies.records start applies.after d.sizes (length (state_now old.medium).told) told image applied law.1 refl along) applies.moments

  never_strange : (file packet : ℕ) → RefusedDelivery names old new (Strange file packet) → ⊥
  never_strange file packet refused = by (same_opening refused.opening refused.starts)
    where
      by : (refused.opening.number ≡ d.number) × (refused.opening.sizes ≡ d.sizes) → ⊥
      by same = never (subst (λ (z : Sizes). IsFirstStrange z d.number old.files names file packet) same.1 (subst (λ (n : ℕ). IsFirstStrange refused.opening.sizes n old.files names file packet) same.0 refused.why))
        where
          never : IsFirstStrange d.sizes d.number old.files names file packet → ⊥
          never is =
              let names_are : names ≡ (is.earlier_names ++ is.name ∷ []) ++ is.later_names = is.split ∙ sym (append_assoc is.earlier_names (is.name ∷ []) is.later_names) in
              let among = λ (name : List ℕ) (here : Contains (is.earlier_names ++ is.name ∷ []) name). subst (λ (all : List (List ℕ)). Contains all name) (sym names_are) (Contains-append_left (is.earlier_names ++ is.name ∷ []) is.later_names name here) in
              let all = theirs (is.earlier_names ++ is.name ∷ []) (is.each ++ (is.earlier ++ is.strange ∷ is.later) ∷ []) among (AllZip-more (HoldsPackets d.sizes old.files) is.earlier_names is.each is.name (is.earlier ++ is.strange ∷ is.later) is.read is.holds) in
              let parts : packets_in (is.each ++ (is.earlier ++ is.strange ∷ is.later) ∷ []) ≡ ((packets_in is.each ++ is.earlier) ++ is.strange ∷ []) ++ is.later = packets_parts is.each is.earlier is.strange is.later in
              let own = all_front (Contains l.packets) ((packets_in is.each ++ is.earlier) ++ is.strange ∷ []) is.later (subst (All (Contains l.packets)) parts all) in
              let law = following l FOLLOWER_ROOM d.front ((packets_in is.each ++ is.earlier) ++ is.strange ∷ []) (is.records ++ []) (is.answers ++ taken.Strange ∷ []) start is.after applied own (follows_then is.follows (follows_one is.is_strange)) in
              all_last (λ answer. IsStrangeAnswer answer → ⊥) is.answers taken.Strange law.0 tt

  -- where all was taken
  module _ (f : FollowedAll names old new (TookAll old.sink new.sink)) where
    same : (f.opening.number ≡ d.number) × (f.opening.sizes ≡ d.sizes)
    same = same_opening f.opening f.starts

    own : All (Contains l.packets) (packets_in f.taken.each)
    own = theirs names f.taken.each (λ name is. is) (subst (λ (z : Sizes). AllZip (HoldsPackets z old.files) names f.taken.each) same.1 f.taken.read)

    follows : Follows FOLLOWER_ROOM start (packets_in f.taken.each) f.taken.answers f.taken.records f.taken.after
    follows = subst (λ (n : ℕ). Follows FOLLOWER_ROOM (follower_at n) (packets_in f.taken.each) f.taken.answers f.taken.records f.taken.after) same.0 f.taken.follows

    recovers : ContentHas (RecoversArray f.opening.sizes f.opening.number array) old.medium
    recovers =
        subst (λ (z : Sizes). ContentHas (RecoversArray z f.opening.number array) old.medium) (sym same.1)
        (subst (λ (n : ℕ). ContentHas (RecoversArray d.sizes n array) old.medium) (sym same.0) d.recovers)

    all_led : IsLed l opening f.opening.sizes f.taken.after.number new.medium
    all_led = record {
      array = overwritten_by_all f.taken.records array;
      is_leader =
          let law = following l FOLLOWER_ROOM d.front (packets_in f.taken.each) f.taken.records f.taken.answers start f.taken.after applied own follows in
          arrays l opening d.front f.taken.records start f.taken.after array applied law.1 refl;
      images = f.left.images array d.visible recovers;
    }

    led_reached : All (λ answer. IsDropAnswer answer → ⊥) f.taken.answers → IsReached (packets_in f.taken.each) f.opening.number f.taken.after.number
    led_reached none =
        subst (λ (n : ℕ). IsReached (packets_in f.taken.each) n f.taken.after.number) (sym same.0)
        (reaching l FOLLOWER_ROOM d.front (packets_in f.taken.each) f.taken.records f.taken.answers start f.taken.after applied refl own follows none)

-- of a fault that says that a packet is strange
strange_runs : (names : List (List ℕ)) (old new : World) (fault : Option Fault) (file packet : ℕ) → RunsFollower names old new fault → fault ≡ Some (Strange file packet) → RefusedDelivery names old new (Strange file packet)
strange_runs names old new fault file packet runs is = (subst (RunsFollower names old new) is runs).1

-- all that is promised follows from what runs and from what every image recovers to
pub follows_files : (names : List (List ℕ)) (old new : World) (fault : Option Fault) → RunsFollower names old new fault
    → ((sizes : Sizes) (number : ℕ) (array : List ℕ) → IsTrue old.medium.is_visible → ContentHas (RecoversArray sizes number array) old.medium → AppliesInOrder sizes number array names old.files old.medium new.medium)
    → FollowsFiles names old new fault
follows_files names old new fault runs crash = record {
  runs = runs;
  crash = crash;
  leads = λ l opening d. record {
    moments = led_moments l opening names old new d (crash d.sizes d.number (overwritten_by_all d.front opening) d.visible d.recovers);
    none_strange = λ file packet is. never_strange l opening names old new d file packet (strange_runs names old new fault file packet runs is);
    led = λ f. all_led l opening names old new d f;
    reached = λ f none. led_reached l opening names old new d f none;
  };
}
