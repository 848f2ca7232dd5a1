-- Packets that a follower takes, one list behind another.
use Rattle.std.proofs.Common.{◌≡◌, ℕ, ◌+◌, ◌<◌, ◌≤◌, Bool, true, false, List, [], ◌∷◌, ◌++◌, length, append_assoc, append-nil, refl, sym, ◌∙◌, ap, subst, arith}
use Rattle.std.specs.Prelude.{◌↔◌, IsErrOf, Result, Ok, Err, drop, get_or, if◌then◌else◌, take}
use Rattle.std.specs.List.{AllZip}
use Rattle.std.proofs.lemmas.List.{length-take-le, take-append-drop, take_more}
use Rattle.std.proofs.lemmas.List.Concat.{flat_map-append}
use Rattle.std.proofs.lemmas.List.Elements.{All-append, All-cons, All-nil}
use Rattle.std.proofs.lemmas.List.Sums.{sum_by-append, sum_by-cons}
use Rattle.dude_base.specs.declared.sizes.Sizes.{Sizes}
use Rattle.dude_base.specs.Records.{RedoBundle}
use Rattle.pmem_trait.specs.declared.medium.Medium.{Ghosts}
use Rattle.pmem_trait.specs.Sights.{Risen, Sight, SomeCalls}
use Rattle.pmem_trait.proofs.Runs.{made_later, ran_here, ran_then, risen_later}
use Rattle.back_store.specs.Back.{BackState}
use Rattle.dude_io.specs.declared.file_text.FileText.{FileText}
use Rattle.dude_follow.specs.declared.follow_fault.FollowFault.{FollowFault}
use Rattle.dude_follow.specs.declared.follow_fault.FollowFault.TheVariants.{Device, Dead}
use Rattle.dude_follow.specs.declared.follower.Follower.{Follower}
use Rattle.dude_follow.specs.declared.taken.Taken.{Taken}
use Rattle.dude_follow.specs.declared.taken.Taken.TheVariants.{Old, Strange, Applied, Kept, Dropped}
use Rattle.dude_follow.specs.Applying.{Applies, IsAtRest, RecoversThrough}
use Rattle.dude_follow.specs.Follower.{KeepsParts, MakesNoCall, TakesPacket, follower_back, follower_room, follower_sight, follower_state}
use Rattle.dude_follow.specs.Following.{IsStrangeAnswer}
use Rattle.dude_follow.specs.Taking.{FollowerState, Follows, Follows.none, Follows.next, Takes}
use Rattle.dude_follow.proofs.Chains.{applies_then, through_then}
use Rattle.dude_follow.proofs.TakenPackets.{applies_none, moments_none}
use Rattle.command_edges.specs.declared.fault.Fault.{Fault}
use Rattle.command_edges.specs.declared.fault.Fault.TheVariants as fault
use Rattle.command_edges.proofs.Zips.{AllZip-more}
use Rattle.dude_program.specs.Delivery.{NoneStrange, drops_of, is_drop, packets_in}
use Rattle.dude_program.specs.Taking.{FollowerRests, IsPacketsFault, MeansPackets, StopsAtFailure, StopsAtStrange, StopsInText, StopsInTexts, TakesAll, TakesList, TakesPackets, TakesText}

-- ---- the rule

pub follows_then : {room : ℕ} {s t u : FollowerState} {ps qs : List RedoBundle} {xs ys : List Taken} {rs ss : List RedoBundle} → Follows room s ps xs rs t → Follows room t qs ys ss u
    → Follows room s (ps ++ qs) (xs ++ ys) (rs ++ ss) u
follows_then none later = later
follows_then {room} {s} {u = u} {qs = qs} {ys = ys} {ss = ss} (next {b = b} {packets = packets} {answer = answer} {answers = answers} records more first others) later =
    subst (λ (l : List RedoBundle). Follows room s (b ∷ packets ++ qs) (answer ∷ answers ++ ys) l u) (sym (append_assoc records more ss)) (next records (more ++ ss) first (follows_then others later))

pub follows_one : {room : ℕ} {s t : FollowerState} {b : RedoBundle} {answer : Taken} {records : List RedoBundle} → Takes room s b answer records t → Follows room s (b ∷ []) (answer ∷ []) records t
follows_one {room} {s} {t} {b} {answer} {records} takes =
    subst (λ (l : List RedoBundle). Follows room s (b ∷ []) (answer ∷ []) l t) (append-nil records) (next records [] takes none)

-- a strange packet changes nothing
pub strange_stays : (room : ℕ) (s : FollowerState) (b : RedoBundle) (records : List RedoBundle) (t : FollowerState) → Takes room s b Strange records t → Takes room s b Strange [] s
strange_stays room s b records t takes = (takes.0, takes.1, record { none = refl; same = refl })

-- ---- answers

pub none_strange_then : (xs ys : List Taken) → NoneStrange xs → NoneStrange ys → NoneStrange (xs ++ ys)
none_strange_then xs ys one other = All-append (λ answer. IsStrangeAnswer answer → ⊥) xs ys one other

pub drops_then : (xs ys : List Taken) → drops_of (xs ++ ys) ≡ drops_of xs + drops_of ys
drops_then xs ys = sum_by-append (λ answer. if is_drop answer then 1 else 0) xs ys

pub one_drop : (answer : Taken) → (if is_drop answer then 1 else 0) ≤ 1
one_drop Old = omega arith
one_drop Strange = omega arith
one_drop (Applied n) = omega arith
one_drop Kept = omega arith
one_drop (Dropped n) = omega arith

-- a call that went well didn't fail
pub well_or_failed : true ≡ false → ⊥
well_or_failed failed = cc

-- ---- followers

module _ {M : Type 0} {ghosts : Ghosts M} where
  -- the packets behind others
  abbrev pub takes_then : {ok : Bool} (ps qs : List RedoBundle) (f m g : Follower M ghosts) → TakesPackets ps true f m → TakesPackets qs ok m g → TakesPackets (ps ++ qs) ok f g
  takes_then ps qs f m g t u = record {
    answers = t.answers ++ u.answers;
    records = t.records ++ u.records;
    after = u.after;
    follows = follows_then t.follows
        (subst (λ (s : FollowerState). Follows (follower_room f) s qs u.answers u.records u.after) (t.state refl)
        (subst (λ (room : ℕ). Follows room (follower_state m) qs u.answers u.records u.after) t.parts.room u.follows));
    state = u.state;
    applies = λ good. applies_then t.records u.records (follower_back f) (follower_back m) (follower_back g) (follower_sight f) (follower_sight m) (follower_sight g) (made_later t.ran.1) (t.applies refl) (u.applies good);
    moments = through_then (follower_back f) (follower_back m) (follower_sight f) (follower_sight m) (follower_sight g) t.records u.records t.parts.sizes (t.applies refl).lead (t.applies refl).overwrites t.moments u.moments;
    dead = u.dead;
    rests = u.rests;
    parts = record { room = u.parts.room ∙ t.parts.room; sizes = u.parts.sizes ∙ t.parts.sizes };
    ran = ran_then t.ran u.ran;
    cause = λ failed. risen_later (follower_sight f).faults (follower_sight m).faults (follower_sight g).faults (follower_sight g).faults (made_later t.ran.1).faults (u.cause failed) (omega arith);
  }

  abbrev pub all_then : (ps qs : List RedoBundle) (d e : ℕ) (f m g : Follower M ghosts) → TakesAll ps d f m → TakesAll qs e m g → TakesAll (ps ++ qs) (d + e) f g
  all_then ps qs d e f m g t u = (
    takes_then ps qs f m g t.0 u.0,
    none_strange_then t.0.answers u.0.answers t.1 u.1,
    let all = drops_then t.0.answers u.0.answers in let one = t.2 in let other = u.2 in omega (arith, all, one, other),
  )

  -- one packet
  abbrev pub takes_one : (b : RedoBundle) (taken : Taken) (f g : Follower M ghosts) → TakesPacket b (Ok taken) f g → KeepsParts f g → TakesPackets (b ∷ []) true f g
  takes_one b taken f g is parts = record {
    answers = taken ∷ [];
    records = is.packets;
    after = is.after;
    follows = follows_one (subst (λ (answer : Taken). Takes (follower_room f) (follower_state f) b answer is.packets is.after) (sym is.ok.0) is.takes);
    state = λ good. is.ok.1;
    applies = λ good. is.applies;
    moments = is.moments;
    dead = is.alive;
    rests = λ good. is.rests;
    parts = parts;
    ran = is.ran;
    cause = λ failed. absurd (well_or_failed failed);
  }

  -- one at which a call failed
  pub takes_failed : (b : RedoBundle) (fault : FollowFault) (f g : Follower M ghosts) → TakesPacket b (Err fault) f g → KeepsParts f g → (follower_back g).dead ≡ true
      → Risen (follower_sight f).faults (follower_sight g).faults → TakesPackets (b ∷ []) false f g
  takes_failed b fault f g is parts dead risen = record {
    answers = is.answer ∷ [];
    records = is.packets;
    after = is.after;
    follows = follows_one is.takes;
    state = λ good. absurd (let no : ⊥ = cc in no);
    applies = λ good. absurd (let no : ⊥ = cc in no);
    moments = is.moments;
    dead = dead;
    rests = λ good. absurd (let no : ⊥ = cc in no);
    parts = parts;
    ran = is.ran;
    cause = λ failed. risen;
  }

  -- one that isn't strange
  pub all_one : (b : RedoBundle) (taken : Taken) (dropped : ℕ) (f g : Follower M ghosts) → TakesPacket b (Ok taken) f g → KeepsParts f g → (IsStrangeAnswer taken → ⊥)
      → dropped ≡ (if is_drop taken then 1 else 0) → TakesAll (b ∷ []) dropped f g
  all_one b taken dropped f g is parts not_strange counted = (
    takes_one b taken f g is parts,
    All-cons (λ answer. IsStrangeAnswer answer → ⊥) taken [] not_strange (All-nil (λ answer. IsStrangeAnswer answer → ⊥)),
    let all = sum_by-cons (λ answer. if is_drop answer then 1 else 0) taken [] in omega (arith, counted, all),
  )

  -- the same of a follower that made no further call
  abbrev pub stays_taken : (ps : List RedoBundle) (f m g : Follower M ghosts) → MakesNoCall m g → follower_state g ≡ follower_state m → KeepsParts m g → TakesPackets ps true f m → TakesPackets ps true f g
  stays_taken ps f m g quiet state parts t =
      let sight : follower_sight g ≡ follower_sight m = ap (λ (x : M). ghosts.sight x) quiet.medium in
      record {
        answers = t.answers;
        records = t.records;
        after = t.after;
        follows = t.follows;
        state = λ good. state ∙ t.state good;
        applies = λ good.
            subst (λ (u : Sight). Applies t.records (follower_back f) (follower_sight f) (follower_back g) u) (sym sight)
            (subst (λ (v : BackState). Applies t.records (follower_back f) (follower_sight f) v (follower_sight m)) (sym quiet.back) (t.applies good));
        moments = subst (λ (u : Sight). RecoversThrough t.records (follower_back f) (follower_sight f) u) (sym sight) t.moments;
        dead = ap (λ (v : BackState). v.dead) quiet.back ∙ t.dead;
        rests = λ good. subst (λ (v : BackState). IsAtRest v) (sym quiet.back) (t.rests good);
        parts = record { room = parts.room ∙ t.parts.room; sizes = parts.sizes ∙ t.parts.sizes };
        ran = subst (λ (u : Sight). SomeCalls true (follower_sight f) u) (sym sight) t.ran;
        cause = λ failed. absurd (well_or_failed failed);
      }

  -- up to a strange one
  pub stops_strange : (before packets earlier later : List RedoBundle) (b : RedoBundle) (place dropped : ℕ) (f m g : Follower M ghosts) → packets ≡ earlier ++ b ∷ later → place ≡ length earlier + 1
      → TakesAll (before ++ earlier) dropped f m → TakesPacket b (Ok Strange) m g → KeepsParts m g → StopsAtStrange before packets place f g
  stops_strange before packets earlier later b place dropped f m g split counted t is parts =
      let takes = subst (λ (answer : Taken). Takes (follower_room m) (follower_state m) b answer is.packets is.after) (sym is.ok.0) is.takes in
      record {
        earlier = earlier;
        strange = b;
        later = later;
        dropped = dropped;
        taken = (stays_taken (before ++ earlier) f m g (is.quiet takes.2.none).1 (is.ok.1 ∙ takes.2.same) parts t.0, t.1, t.2);
        split = split;
        counted = counted;
        is_strange = strange_stays (follower_room f) t.0.after b is.packets is.after
            (subst (λ (s : FollowerState). Takes (follower_room f) s b Strange is.packets is.after) (t.0.state refl)
            (subst (λ (room : ℕ). Takes room (follower_state m) b Strange is.packets is.after) t.0.parts.room takes));
      }

  -- the same behind more packets
  pub strange_then : (ps packets : List RedoBundle) (place dropped : ℕ) (f m g : Follower M ghosts) → TakesAll ps dropped f m → StopsAtStrange [] packets place m g → StopsAtStrange ps packets place f g
  strange_then ps packets place dropped f m g t u = record {
    earlier = u.earlier;
    strange = u.strange;
    later = u.later;
    split = u.split;
    counted = u.counted;
    dropped = dropped + u.dropped;
    taken = all_then ps u.earlier dropped u.dropped f m g t u.taken;
    is_strange = subst (λ (room : ℕ). Takes room u.taken.0.after u.strange Strange [] u.taken.0.after) t.0.parts.room u.is_strange;
  }

  pub failure_then : (ps packets : List RedoBundle) (f m g : Follower M ghosts) → TakesPackets ps true f m → StopsAtFailure [] packets m g → StopsAtFailure ps packets f g
  failure_then ps packets f m g t u = record {
    earlier = u.earlier;
    later = u.later;
    split = u.split;
    taken = takes_then ps u.earlier f m g t u.taken;
  }

-- ---- a loop over packets

-- the first ones, and one more
one_more : {A : Type 0} (xs : List A) (i : ℕ) (x : A) → i < length xs → x ≡ get_or xs i x → take (i + 1) xs ≡ take i xs ++ x ∷ []
one_more {A = A} xs i x below at = take_more xs i x below ∙ ap (λ (y : A). take i xs ++ y ∷ []) (sym at)

all_parts : {A : Type 0} (xs : List A) (i : ℕ) (x : A) → i < length xs → x ≡ get_or xs i x → xs ≡ (take i xs ++ x ∷ []) ++ drop (i + 1) xs
all_parts {A = A} xs i x below at = sym (take-append-drop (i + 1) xs) ∙ ap (λ (l : List A). l ++ drop (i + 1) xs) (one_more xs i x below at)

module _ {M : Type 0} {ghosts : Ghosts M} where
  -- none was taken
  abbrev pub takes_none : (f : Follower M ghosts) → FollowerRests f → TakesPackets [] true f f
  takes_none f rests = record {
    answers = [];
    records = [];
    after = follower_state f;
    follows = none;
    state = λ good. refl;
    applies = λ good. applies_none (follower_back f) (follower_sight f);
    moments = moments_none (follower_back f) (follower_sight f) rests f.replica.back.room;
    dead = rests.alive;
    rests = λ good. rests;
    parts = record { room = refl; sizes = refl };
    ran = ran_here (follower_sight f);
    cause = λ failed. absurd (well_or_failed failed);
  }

  pub all_none : (f : Follower M ghosts) → FollowerRests f → TakesAll [] 0 f f
  all_none f rests = (takes_none f rests, All-nil (λ answer. IsStrangeAnswer answer → ⊥), refl)

  module _ (packets : List RedoBundle) (i : ℕ) (b : RedoBundle) (below : i < length packets) (at : b ≡ get_or packets i b) (dropped : ℕ) (f m g : Follower M ghosts) (taken : TakesAll (take i packets) dropped f m) where
    -- one more, which isn't strange
    pub all_next : (answer : Taken) (more : ℕ) → TakesPacket b (Ok answer) m g → KeepsParts m g → (IsStrangeAnswer answer → ⊥) → more ≡ (if is_drop answer then 1 else 0)
        → TakesAll (take (i + 1) packets) (dropped + more) f g
    all_next answer more is parts not_strange counted =
        subst (λ (l : List RedoBundle). TakesAll l (dropped + more) f g) (sym (one_more packets i b below at))
        (all_then (take i packets) (b ∷ []) dropped more f m g taken (all_one b answer more m g is parts not_strange counted))

    -- one that is strange
    pub strange_at : TakesPacket b (Ok Strange) m g → KeepsParts m g → StopsAtStrange [] packets (i + 1) f g
    strange_at is parts =
        stops_strange [] packets (take i packets) (drop (i + 1) packets) b (i + 1) dropped f m g (all_parts packets i b below at ∙ append_assoc (take i packets) (b ∷ []) (drop (i + 1) packets))
        (ap (λ n. n + 1) (sym (length-take-le i packets (omega (arith, below))))) taken is parts

    -- one at which a call failed
    pub failure_at : (why : FollowFault) → TakesPacket b (Err why) m g → KeepsParts m g → (follower_back g).dead ≡ true → Risen (follower_sight m).faults (follower_sight g).faults
        → StopsAtFailure [] packets f g
    failure_at why is parts dead risen = record {
      earlier = take i packets ++ b ∷ [];
      later = drop (i + 1) packets;
      split = all_parts packets i b below at;
      taken = takes_then (take i packets) (b ∷ []) f m g taken.0 (takes_failed b why m g is parts dead risen);
    }

  -- a follower that isn't dead refuses by its device
  pub refused_by_device : (why : FollowFault) (f g : Follower M ghosts) → (let result : Result Taken FollowFault = Err why in IsErrOf result Dead ↔ ((follower_back f).dead ≡ true))
      → (let result : Result Taken FollowFault = Err why in IsErrOf result Device ↔ ((follower_back f).dead ≡ false) × ((follower_back g).dead ≡ true))
      → (let result : Result Taken FollowFault = Err why in IsErrOf result Device → Risen (follower_sight f).faults (follower_sight g).faults) → (follower_back f).dead ≡ false
      → ((follower_back g).dead ≡ true) × Risen (follower_sight f).faults (follower_sight g).faults
  refused_by_device Device f g dead device cause alive = ((device.0 refl).1, cause refl)
  refused_by_device Dead f g dead device cause alive = absurd (let both = sym alive ∙ dead.0 refl in cc)

  -- ---- texts

  -- what became of the packets of a text
  pub text_taken : (sizes : Sizes) (text : FileText) (packets : List RedoBundle) (number : ℕ) (result : Result ℕ Fault) (f g : Follower M ghosts) → MeansPackets sizes text packets → TakesList packets number result f g
      → TakesText sizes text number result f g
  text_taken sizes text packets number (Ok dropped) f g means taken = (packets, means, taken)
  text_taken sizes text packets number (Err (fault.Text file row field)) f g means stops = absurd stops
  text_taken sizes text packets number (Err fault.Memory) f g means stops = absurd stops
  text_taken sizes text packets number (Err (fault.Strange file packet)) f g means stops = (packets, means, stops)
  text_taken sizes text packets number (Err fault.Device) f g means stops = (packets, means, stops)
  text_taken sizes text packets number (Err why) f g means stops = absurd stops

  -- a text that gives none
  pub text_unread : (sizes : Sizes) (text : FileText) (number : ℕ) (why : Fault) (f : Follower M ghosts) → FollowerRests f → IsPacketsFault sizes text number why → StopsInText sizes [] text number why f f
  text_unread sizes text number (fault.Text file row field) f rests is = (is, (0, all_none f rests))
  text_unread sizes text number fault.Memory f rests is = (0, all_none f rests)
  text_unread sizes text number why f rests is = absurd is

  -- behind packets that were taken none more
  none_behind : (before : List RedoBundle) (d e : ℕ) (f m g : Follower M ghosts) → TakesAll before d f m → TakesAll [] e m g → TakesAll before (d + e) f g
  none_behind before d e f m g t u = subst (λ (l : List RedoBundle). TakesAll l (d + e) f g) (append-nil before) (all_then before [] d e f m g t u)

  -- a text behind packets that were taken
  pub text_then : (sizes : Sizes) (before : List RedoBundle) (dropped : ℕ) (text : FileText) (number : ℕ) (why : Fault) (f m g : Follower M ghosts) → TakesAll before dropped f m → StopsInText sizes [] text number why m g
      → StopsInText sizes before text number why f g
  text_then sizes before dropped text number (fault.Text file row field) f m g t stops = (stops.0, (dropped + stops.1.0, none_behind before dropped stops.1.0 f m g t stops.1.1))
  text_then sizes before dropped text number fault.Memory f m g t stops = (dropped + stops.0, none_behind before dropped stops.0 f m g t stops.1)
  text_then sizes before dropped text number (fault.Strange file packet) f m g t stops = (stops.0, stops.1, (stops.2.0, strange_then before stops.0 packet dropped f m g t stops.2.1))
  text_then sizes before dropped text number fault.Device f m g t stops = (stops.0, stops.1, failure_then before stops.0 f m g t.0 stops.2)
  text_then sizes before dropped text number why f m g t stops = absurd stops.2

-- the packets of one file more
pub packets_more : (each : List (List RedoBundle)) (packets : List RedoBundle) → packets_in (each ++ packets ∷ []) ≡ packets_in each ++ packets
packets_more each packets = flat_map-append (λ (packets : List RedoBundle). packets) each (packets ∷ []) ∙ ap (λ (l : List RedoBundle). packets_in each ++ l) (append-nil packets)

-- a loop over texts
module _ {M : Type 0} {ghosts : Ghosts M} (sizes : Sizes) (texts : List FileText) (i : ℕ) (text : FileText) (below : i < length texts) (at : text ≡ get_or texts i text)
    (each : List (List RedoBundle)) (read : AllZip (MeansPackets sizes) (take i texts) each) (dropped : ℕ) (f m g : Follower M ghosts) (taken : TakesAll (packets_in each) dropped f m) where
  -- one more, of these packets
  pub next_read : (packets : List RedoBundle) → MeansPackets sizes text packets → AllZip (MeansPackets sizes) (take (i + 1) texts) (each ++ packets ∷ [])
  next_read packets means =
      subst (λ (l : List FileText). AllZip (MeansPackets sizes) l (each ++ packets ∷ [])) (sym (one_more texts i text below at))
      (AllZip-more (MeansPackets sizes) (take i texts) each text packets read means)

  pub next_taken : (packets : List RedoBundle) (more : ℕ) → TakesAll packets more m g → TakesAll (packets_in (each ++ packets ∷ [])) (dropped + more) f g
  next_taken packets more t =
      subst (λ (l : List RedoBundle). TakesAll l (dropped + more) f g) (sym (packets_more each packets)) (all_then (packets_in each) packets dropped more f m g taken t)

  -- one whose packets weren't all taken
  pub texts_stop : (why : Fault) → StopsInText sizes [] text (i + 1) why m g → StopsInTexts sizes texts why f g
  texts_stop why stops = record {
    earlier = take i texts;
    text = text;
    later = drop (i + 1) texts;
    split = all_parts texts i text below at ∙ append_assoc (take i texts) (text ∷ []) (drop (i + 1) texts);
    each = each;
    read = read;
    stops =
        subst (λ (n : ℕ). StopsInText sizes (packets_in each) text n why f g) (ap (λ n. n + 1) (sym (length-take-le i texts (omega (arith, below)))))
        (text_then sizes (packets_in each) dropped text (i + 1) why f m g taken stops);
  }
