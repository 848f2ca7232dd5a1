-- A follower that takes a leader's packets.
use Rattle.std.proofs.Common.{◌≡◌, ◌≢◌, ◌⊎◌, inl, inr, ℕ, ◌+◌, ◌<◌, ◌≤◌, List, [], ◌∷◌, ◌++◌, append-nil, append_assoc, sym, ap, ◌∙◌, subst, arith, All, ⊎_elim, nat_lt, get_or, filter}
use Rattle.std.specs.List.{Contains}
use Rattle.std.proofs.lemmas.Bool.{cases_order}
use Rattle.std.proofs.lemmas.List.Elements.{All-head, All-tail, All-cons, All-nil, All-push, All-weaker, All-contains, Contains-get_or, Contains-append_cases, Contains-append_left, Contains-push, Contains-push_cases}
use Rattle.dude_follow.specs.declared.taken.Taken.{Taken}
use Rattle.dude_follow.specs.declared.taken.Taken.TheVariants.{Old, Strange, Applied, Kept, Dropped}
use Rattle.dude_base.specs.Records.{RedoBundle, first_of, overwritten_by_all}
use Rattle.redo_record.specs.Recovery.{AreConsecutive}
use Rattle.redo_record.proofs.Reproducing.{overwritten-append}
use Rattle.redo_record.proofs.WaitingRecords.{consecutive_up}
use Rattle.dude_follow.specs.Taking.{Advances, FollowerState, Follows, Follows.none, Follows.next, IsKeptIn, IsStrange, StaysSo, Takes}
use Rattle.dude_follow.specs.Following.{HasApplied, IsDelivered, IsDropAnswer, IsStrangeAnswer, Leader, LawOfArrays, LawOfFollowing, LawOfReaching}
use Rattle.dude_follow.proofs.Leading.{begins_over, consecutive_append, contains_cases, contains_first, contains_filter, contains_later, ends_within, filter_kept, goes_through, one_packet}

module _ (l : Leader) (applied : List RedoBundle) (s : FollowerState) (f : HasApplied l applied s) where
  -- a packet of the leader is one of those that were applied, or still to come
  to_come : (b : RedoBundle) → Contains l.packets b → s.number < b.last → Contains f.rest b
  to_come b is over = ⊎_elim
      (λ (front : Contains applied b). absurd (let high = ends_within l.first s.number applied b f.before front in omega (arith, over, high)))
      (λ (rest : Contains f.rest b). rest)
      (Contains-append_cases applied f.rest b (subst (λ (xs : List RedoBundle). Contains xs b) f.split is))

  kept_over : (c : RedoBundle) → Contains s.kept c → s.number + 1 < first_of c
  kept_over c is =
      let over = begins_over s.number l.last f.rest c f.behind (All-contains (Contains f.rest) s.kept c f.kept is) in
      let other = All-contains (λ (c : RedoBundle). first_of c ≢ s.number + 1) s.kept c f.none_next is in
      less over other
    where
      less : s.number < first_of c → first_of c ≢ s.number + 1 → s.number + 1 < first_of c
      less over other = grind (arith, over, other)

  -- none of them is strange
  not_strange : (b : RedoBundle) → Contains l.packets b → s.number < b.last → IsStrange s b → ⊥
  not_strange b is over (inl low) = (let up = begins_over s.number l.last f.rest b f.behind (to_come b is over) in omega (arith, low, up))
  not_strange b is over (inr other) =
      let c = other.1.other in
      let same : c ≡ b = one_packet s.number l.last f.rest c b f.behind (All-contains (Contains f.rest) s.kept c f.kept other.1.is_kept) (to_come b is over)
      (record { number = other.1.share.number; one = other.1.share.other; other = other.1.share.one }) in
      other.0 (subst (λ (x : RedoBundle). Contains s.kept x) same other.1.is_kept)

  -- what is applied leads on in the leader's list
  advanced : (b : RedoBundle) (records : List RedoBundle) (t : FollowerState) → Contains l.packets b → s.number < b.last → Advances s b records t → HasApplied l (applied ++ records) t
  advanced b records t is over a =
      let others : All (Contains f.rest) a.more = All-weaker (Contains s.kept) (Contains f.rest) (λ c k. All-contains (Contains f.rest) s.kept c f.kept k) a.more a.from_kept in
      let all : All (Contains f.rest) records = subst (λ (xs : List RedoBundle). All (Contains f.rest) xs) (sym a.records_are) (All-cons (Contains f.rest) b a.more (to_come b is over) others) in
      let goes = goes_through s.number t.number l.last records f.rest a.lead f.behind all in
      record {
        rest = goes.behind;
        split = f.split ∙ (ap (λ (xs : List RedoBundle). applied ++ xs) goes.whole ∙ sym (append_assoc applied records goes.behind));
        before = consecutive_append l.first s.number t.number applied records f.before a.lead;
        behind = goes.consecutive;
        kept = λ k d lt.
            let c = get_or t.kept k d in
            let has : Contains (filter (λ (x : RedoBundle). nat_lt t.number x.last) s.kept) c = subst (λ (xs : List RedoBundle). Contains xs c) a.kept (Contains-get_or t.kept k d lt) in
            still goes.behind goes.whole c (filter_kept t.number s.kept c has);
        none_next = λ k d lt.
            let c = get_or t.kept k d in
            let has : Contains (filter (λ (x : RedoBundle). nat_lt t.number x.last) s.kept) c = subst (λ (xs : List RedoBundle). Contains xs c) a.kept (Contains-get_or t.kept k d lt) in
            All-contains (λ (c : RedoBundle). first_of c ≢ t.number + 1) s.kept c a.none_next (filter_kept t.number s.kept c has).0;
      }
    where
      still : (behind : List RedoBundle) → f.rest ≡ records ++ behind → (c : RedoBundle) → Contains s.kept c × (t.number < c.last) → Contains behind c
      still behind whole c is = ⊎_elim
          (λ (front : Contains records c). absurd (let high = ends_within s.number t.number records c a.lead front in let over = is.1 in omega (arith, high, over)))
          (λ (later : Contains behind c). later)
          (Contains-append_cases records behind c (subst (λ (xs : List RedoBundle). Contains xs c) whole (All-contains (Contains f.rest) s.kept c f.kept is.0)))

  stays : HasApplied l (applied ++ []) s
  stays = subst (λ (xs : List RedoBundle). HasApplied l xs s) (sym (append-nil applied)) f

  keeps : (b : RedoBundle) → Contains l.packets b → s.number < b.last → first_of b ≢ s.number + 1 → HasApplied l (applied ++ []) (record { number = s.number; kept = s.kept ++ b ∷ [] })
  keeps b is over other = record {
    rest = f.rest;
    split = f.split ∙ ap (λ (xs : List RedoBundle). xs ++ f.rest) (sym (append-nil applied));
    before = subst (λ (xs : List RedoBundle). AreConsecutive l.first xs s.number) (sym (append-nil applied)) f.before;
    behind = f.behind;
    kept = All-push (Contains f.rest) s.kept b f.kept (to_come b is over);
    none_next = All-push (λ (c : RedoBundle). first_of c ≢ s.number + 1) s.kept b f.none_next other;
  }

  stays_so : (records : List RedoBundle) (t : FollowerState) → StaysSo s records t → HasApplied l (applied ++ records) t
  stays_so records t same =
      subst (λ (xs : List RedoBundle). HasApplied l (applied ++ xs) t) (sym same.none) (subst (λ (u : FollowerState). HasApplied l (applied ++ []) u) (sym same.same) stays)

  -- one packet
  pub takes_on : (room : ℕ) (b : RedoBundle) (answer : Taken) (records : List RedoBundle) (t : FollowerState) → Contains l.packets b → Takes room s b answer records t
      → (IsStrangeAnswer answer → ⊥) × HasApplied l (applied ++ records) t
  takes_on room b Old records t is p = (λ none. none, stays_so records t p.1)
  takes_on room b Strange records t is p = absurd (not_strange b is p.0 p.1)
  takes_on room b (Applied number) records t is p = (λ none. none, advanced b records t is p.0.over p.2)
  takes_on room b Kept records t is p = (λ none. none, subst (λ (xs : List RedoBundle). HasApplied l (applied ++ xs) t) (sym p.2) (by p.3))
    where
      by : IsKeptIn room s b t → HasApplied l (applied ++ []) t
      by (inl q) = subst (λ (u : FollowerState). HasApplied l (applied ++ []) u) (sym q.1) stays
      by (inr q) = subst (λ (u : FollowerState). HasApplied l (applied ++ []) u) (sym q.2) (keeps b is p.0.over p.1)
  takes_on room b (Dropped kept) records t is p = (λ none. none, stays_so records t p.5)

pub following : LawOfFollowing
following l room applied packets records answers s t f all none = (All-nil (λ (a : Taken). IsStrangeAnswer a → ⊥), stays l applied s f)
following l room applied (b ∷ packets) records (answer ∷ answers) s t f all (next {u = u} done more one rest) =
    let here = takes_on l applied s f room b answer done u (All-head (Contains l.packets) b packets all) one in
    let further = following l room (applied ++ done) packets more answers u t here.1 (All-tail (Contains l.packets) b packets all) rest in (
      All-cons (λ (a : Taken). IsStrangeAnswer a → ⊥) answer answers here.0 further.0,
      subst (λ (xs : List RedoBundle). HasApplied l xs t) (append_assoc applied done more) further.1,
    )

pub arrays : LawOfArrays
arrays l opening applied records s t array f g is = record {
  front = applied ++ records;
  rest = g.rest;
  split = g.split;
  upto = g.before;
  result = ap (overwritten_by_all records) is ∙ sym (overwritten-append applied records opening);
}

-- What was seen so far: the numbers that were reached are covered by it, and the rest of it is kept.
record Seen (seen : List RedoBundle) (first : ℕ) (s : FollowerState) : Type 0 where
  up : first ≤ s.number
  each : (n : ℕ) → first < n → n ≤ s.number → IsDelivered seen n
  known : (c : RedoBundle) → Contains seen c → (c.last ≤ s.number) ⊎ Contains s.kept c
  kept : (c : RedoBundle) → Contains s.kept c → Contains seen c

-- a list that leads on covers the numbers on its way
covered : (from to n : ℕ) (bs : List RedoBundle) → AreConsecutive from bs to → from < n → n ≤ to → IsDelivered bs n
covered from to n [] is low high = absurd (omega (arith, is, low, high))
covered from to n (b ∷ bs) is low high = ⊎_elim
    (λ (in_first : n ≤ b.last). record { packet = b; is_one = contains_first b bs; covers = record { low = (let first = is.0 in omega (arith, first, low)); high = in_first } })
    (λ (behind : b.last < n). let later = covered b.last to n bs is.1 behind high in record { packet = later.packet; is_one = contains_later b bs later.packet later.is_one; covers = later.covers })
    (split n b.last)
  where
    split : (m k : ℕ) → (m ≤ k) ⊎ (k < m)
    split m k = grind (arith, cases_order m k)

seen_more : (seen : List RedoBundle) (b : RedoBundle) (n : ℕ) → IsDelivered seen n → IsDelivered (seen ++ b ∷ []) n
seen_more seen b n d = record { packet = d.packet; is_one = Contains-append_left seen (b ∷ []) d.packet d.is_one; covers = d.covers }

module _ (l : Leader) (applied : List RedoBundle) (s : FollowerState) (f : HasApplied l applied s) (seen : List RedoBundle) (first : ℕ) (v : Seen seen first s) where
  -- nothing changes, and the packet is old or kept
  seen_so : (b : RedoBundle) (t : FollowerState) → t ≡ s → (b.last ≤ s.number) ⊎ Contains s.kept b → Seen (seen ++ b ∷ []) first t
  seen_so b t same where_is = subst (λ (u : FollowerState). Seen (seen ++ b ∷ []) first u) (sym same) (record {
    up = v.up;
    each = λ n low high. seen_more seen b n (v.each n low high);
    known = λ c is. ⊎_elim
        (λ (old : Contains seen c). v.known c old)
        (λ (new : b ≡ c). subst (λ (x : RedoBundle). (x.last ≤ s.number) ⊎ Contains s.kept x) new where_is)
        (Contains-push_cases seen b c is);
    kept = λ c is. Contains-append_left seen (b ∷ []) c (v.kept c is);
  })

  seen_kept : (b : RedoBundle) → Seen (seen ++ b ∷ []) first (record { number = s.number; kept = s.kept ++ b ∷ [] })
  seen_kept b = record {
    up = v.up;
    each = λ n low high. seen_more seen b n (v.each n low high);
    known = λ c is. ⊎_elim
        (λ (old : Contains seen c). ⊎_elim
        (λ (low : c.last ≤ s.number). inl low)
        (λ (k : Contains s.kept c). inr (Contains-append_left s.kept (b ∷ []) c k))
        (v.known c old))
        (λ (new : b ≡ c). inr (subst (λ (x : RedoBundle). Contains (s.kept ++ b ∷ []) x) new (Contains-push s.kept b)))
        (Contains-push_cases seen b c is);
    kept = λ c is. ⊎_elim
        (λ (old : Contains s.kept c). Contains-append_left seen (b ∷ []) c (v.kept c old))
        (λ (new : b ≡ c). subst (λ (x : RedoBundle). Contains (seen ++ b ∷ []) x) new (Contains-push seen b))
        (Contains-push_cases s.kept b c is);
  }

  seen_applied : (b : RedoBundle) (records : List RedoBundle) (t : FollowerState) → Advances s b records t → Seen (seen ++ b ∷ []) first t
  seen_applied b records t a =
      let up = consecutive_up s.number t.number records a.lead in
      let is_seen : (c : RedoBundle) → Contains records c → Contains (seen ++ b ∷ []) c
      = λ c is. ⊎_elim
      (λ (new : b ≡ c). subst (λ (x : RedoBundle). Contains (seen ++ b ∷ []) x) new (Contains-push seen b))
      (λ (old : Contains a.more c). Contains-append_left seen (b ∷ []) c (v.kept c (All-contains (Contains s.kept) a.more c a.from_kept old)))
      (contains_cases b a.more c (subst (λ (xs : List RedoBundle). Contains xs c) a.records_are is)) in
      let first_one : Contains records b = subst (λ (xs : List RedoBundle). Contains xs b) (sym a.records_are) (contains_first b a.more) in
      record {
        up = (let from = v.up in omega (arith, from, up));
        each = λ n low high. ⊎_elim
            (λ (before : n ≤ s.number). seen_more seen b n (v.each n low before))
            (λ (behind : s.number < n).
            let d = covered s.number t.number n records a.lead behind high in
            record { packet = d.packet; is_one = is_seen d.packet d.is_one; covers = d.covers })
            (split n s.number);
        known = λ c is. ⊎_elim
            (λ (old : Contains seen c). ⊎_elim
            (λ (low : c.last ≤ s.number). inl (omega (arith, low, up)))
            (λ (k : Contains s.kept c). ⊎_elim
            (λ (low : c.last ≤ t.number). inl low)
            (λ (over : t.number < c.last). inr (subst (λ (xs : List RedoBundle). Contains xs c) (sym a.kept) (contains_filter t.number c s.kept k over)))
            (split c.last t.number))
            (v.known c old))
            (λ (new : b ≡ c). inl (subst (λ (x : RedoBundle). x.last ≤ t.number) new (ends_within s.number t.number records b a.lead first_one)))
            (Contains-push_cases seen b c is);
        kept = λ c is. Contains-append_left seen (b ∷ []) c (v.kept c (filter_kept t.number s.kept c (subst (λ (xs : List RedoBundle). Contains xs c) a.kept is)).0);
      }
    where
      split : (m k : ℕ) → (m ≤ k) ⊎ (k < m)
      split m k = grind (arith, cases_order m k)

  seen_on : (room : ℕ) (b : RedoBundle) (answer : Taken) (records : List RedoBundle) (t : FollowerState) → Contains l.packets b → (IsDropAnswer answer → ⊥) → Takes room s b answer records t
      → Seen (seen ++ b ∷ []) first t
  seen_on room b Old records t is not_drop p = seen_so b t p.1.same (inl p.0)
  seen_on room b Strange records t is not_drop p = absurd (not_strange l applied s f b is p.0 p.1)
  seen_on room b (Applied number) records t is not_drop p = seen_applied b records t p.2
  seen_on room b Kept records t is not_drop p = by p.3
    where
      by : IsKeptIn room s b t → Seen (seen ++ b ∷ []) first t
      by (inl q) = seen_so b t q.1 (inr q.0)
      by (inr q) = subst (λ (u : FollowerState). Seen (seen ++ b ∷ []) first u) (sym q.2) (seen_kept b)
  seen_on room b (Dropped kept) records t is not_drop p = absurd (not_drop tt)

seen_all : (l : Leader) (room : ℕ) (applied packets records : List RedoBundle) (answers : List Taken) (s t : FollowerState) (seen : List RedoBundle) (first : ℕ) → HasApplied l applied s → Seen seen first s
    → All (Contains l.packets) packets → Follows room s packets answers records t → All (λ a. IsDropAnswer a → ⊥) answers → Seen (seen ++ packets) first t
seen_all l room applied packets records answers s t seen first f v all none _ = subst (λ (xs : List RedoBundle). Seen xs first s) (sym (append-nil seen)) v
seen_all l room applied (b ∷ packets) records (answer ∷ answers) s t seen first f v all (next {u = u} done more one rest) stay =
    let is = All-head (Contains l.packets) b packets all in
    let here = takes_on l applied s f room b answer done u is one in
    let now = seen_on l applied s f seen first v room b answer done u is (All-head (λ (a : Taken). IsDropAnswer a → ⊥) answer answers stay) one in
    subst (λ (xs : List RedoBundle). Seen xs first t) (append_assoc seen (b ∷ []) packets)
    (seen_all l room (applied ++ done) packets more answers u t (seen ++ b ∷ []) first here.1 now (All-tail (Contains l.packets) b packets all) rest (All-tail (λ (a : Taken). IsDropAnswer a → ⊥) answer answers stay))

nothing_seen : (s : FollowerState) → s.kept ≡ [] → Seen [] s.number s
nothing_seen s empty = record {
  up = omega arith;
  each = λ n low high. absurd (omega (arith, low, high));
  known = λ c is. absurd (let lt = is.1 in omega (arith, lt));
  kept = λ c is. subst (λ (xs : List RedoBundle). Contains xs c) empty is;
}

pub reaching : LawOfReaching
reaching l room applied packets records answers s t f empty all run stay =
    let v = seen_all l room applied packets records answers s t [] s.number f (nothing_seen s empty) all run stay in
    let g = (following l room applied packets records answers s t f all run).1 in
    record {
      up = v.up;
      each = v.each;
      next = λ d. ⊎_elim
          (λ (low : d.packet.last ≤ t.number). (let high = d.covers.high in omega (arith, low, high)))
          (λ (k : Contains t.kept d.packet). (let over = kept_over l (applied ++ records) t g d.packet k in let low = d.covers.low in omega (arith, over, low)))
          (v.known d.packet d.is_one);
    }
