-- What the fields of a store stand for, behind more calls.
use Rattle.std.proofs.Common.{◌≡◌, ℕ, List, [], ◌∷◌, ◌++◌, length, map, max, nat_lt, take, drop, set, get_or, sym, ap, ◌∙◌, arith, append_assoc, take-append-drop}
use Rattle.std.specs.List.{filter}
use Rattle.std.proofs.lemmas.List.{take-append-le, take_all, drop_all}
use Rattle.dude_base.specs.declared.sizes.Sizes.{Sizes}
use Rattle.dude_base.specs.declared.write.Write.{Write}
use Rattle.dude_base.specs.Records.{RedoBundle}
use Rattle.dude_base.specs.Writes.{overwritten}
use Rattle.pmem_trait.specs.declared.call.Call.{Call}
use Rattle.redo_record.specs.Waiting.{Waiting}
use Rattle.dude_core.specs.StoreData.{RingData, StoreData, no_ring}
use Rattle.dude_core.specs.Effects.{called, rested, added, ring_released, left_of, appends, replays}

-- the data that these fields stand for
abbrev pub data_of : Sizes → List RingData → List Waiting → List ℕ → ℕ → ℕ → List Call → ℕ → List ℕ → List (ℕ × ℕ) → StoreData
data_of s rings waiting home reproduced released made since marks read = record {
  sizes = s;
  rings = rings;
  waiting = waiting;
  home = home;
  ended = take since made;
  calls = drop since made;
  reproduced = reproduced;
  released = released;
  marks = marks;
  read = read;
}

-- a list that is lent as a slice, and written back whole, is what became of the slice
pub written_back : {X : Type 0} (n : ℕ) (lent new old made : List X) → lent ≡ old → length lent ≡ n → new ≡ made → length made ≡ length old → take n (new ++ drop (length new) old) ≡ made
written_back n lent new old made value count is same =
    let long : length new ≡ n = (let of_new = ap length is in let of_old = ap length value in omega arith) in
    take-append-le n new (drop (length new) old) (omega arith) ∙ (take_all n new (omega arith) ∙ is)

module _ (made : List Call) (since : ℕ) (call : Call) where
  whole_with : take (length (made ++ call ∷ [])) (made ++ call ∷ []) ≡ take since made ++ (drop since made ++ call ∷ [])
  whole_with =
      take_all (length (made ++ call ∷ [])) (made ++ call ∷ []) (omega arith)
      ∙ (ap (λ (cs : List Call). cs ++ call ∷ []) (sym (take-append-drop since made)) ∙ append_assoc (take since made) (drop since made) (call ∷ []))

  none_with : drop (length (made ++ call ∷ [])) (made ++ call ∷ []) ≡ []
  none_with = drop_all (length (made ++ call ∷ [])) (made ++ call ∷ []) (omega arith)

  -- the call was made, and all calls have ended
  ended_is : (s : Sizes) (rings : List RingData) (waiting : List Waiting) (home : List ℕ) (reproduced released : ℕ) (marks : List ℕ) (read : List (ℕ × ℕ))
      → data_of s rings waiting home reproduced released (made ++ call ∷ []) (length (made ++ call ∷ [])) marks read ≡ rested (called call (data_of s rings waiting home reproduced released made since marks read))
  ended_is s rings waiting home reproduced released marks read = λ k. record (rested (called call (data_of s rings waiting home reproduced released made since marks read))) { ended = whole_with k; calls = none_with k }

  module _ (s : Sizes) (rings : List RingData) (waiting : List Waiting) (home : List ℕ) (reproduced released : ℕ) (marks : List ℕ) (read : List (ℕ × ℕ)) where
    abbrev old : StoreData
    old = data_of s rings waiting home reproduced released made since marks read

    -- ---- what is left behind the last call of a persist
    module _ (t : ℕ) (b : RedoBundle) where
      abbrev rings_with : List RingData
      rings_with = set rings t (added s t b (get_or rings t no_ring))

      abbrev waiting_with : List Waiting
      waiting_with = waiting ++ record { ring = t; redo = b } ∷ []

      persisted_is : data_of s rings_with waiting_with home reproduced released (made ++ call ∷ []) (length (made ++ call ∷ [])) marks read ≡ left_of (appends t b) (called call old)
      persisted_is = ended_is s rings_with waiting_with home reproduced released marks read

      pub persisted_by : (rings2 : List RingData) (waiting2 : List Waiting) (made2 : List Call) (since2 : ℕ) → rings2 ≡ rings_with → waiting2 ≡ waiting_with → made2 ≡ made ++ call ∷ [] → since2 ≡ length made2
          → data_of s rings2 waiting2 home reproduced released made2 since2 marks read ≡ left_of (appends t b) (called call old)
      persisted_by rings2 waiting2 made2 since2 rings_is waiting_is made_is since_is =
          ap (λ (n : ℕ). data_of s rings2 waiting2 home reproduced released made2 n marks read) since_is
          ∙ (ap (λ (cs : List Call). data_of s rings2 waiting2 home reproduced released cs (length cs) marks read) made_is
          ∙ (ap (λ (ws : List Waiting). data_of s rings2 ws home reproduced released (made ++ call ∷ []) (length (made ++ call ∷ [])) marks read) waiting_is
          ∙ (ap (λ (rs : List RingData). data_of s rs waiting_with home reproduced released (made ++ call ∷ []) (length (made ++ call ∷ [])) marks read) rings_is ∙ persisted_is)))

    -- ---- what is left behind the last call of a reproduction
    module _ (ws : List Write) (n : ℕ) where
      abbrev rings_left : List RingData
      rings_left = map (ring_released n) rings

      abbrev waiting_left : List Waiting
      waiting_left = filter (λ w. nat_lt n w.redo.last) waiting

      reproduced_is : data_of s rings_left waiting_left (overwritten ws home) n (max released n) (made ++ call ∷ []) (length (made ++ call ∷ [])) (n ∷ marks) read ≡ left_of (replays ws n) (called call old)
      reproduced_is = ended_is s rings_left waiting_left (overwritten ws home) n (max released n) (n ∷ marks) read

      pub reproduced_by : (rings2 : List RingData) (waiting2 : List Waiting) (home2 : List ℕ) (released2 : ℕ) (made2 : List Call) (since2 : ℕ) (marks2 : List ℕ)
          → rings2 ≡ rings_left → waiting2 ≡ waiting_left → home2 ≡ overwritten ws home → released2 ≡ max released n → made2 ≡ made ++ call ∷ [] → since2 ≡ length made2 → marks2 ≡ n ∷ marks
          → data_of s rings2 waiting2 home2 n released2 made2 since2 marks2 read ≡ left_of (replays ws n) (called call old)
      reproduced_by rings2 waiting2 home2 released2 made2 since2 marks2 rings_is waiting_is home_is released_is made_is since_is marks_is =
          ap (λ (m : ℕ). data_of s rings2 waiting2 home2 n released2 made2 m marks2 read) since_is
          ∙ (ap (λ (cs : List Call). data_of s rings2 waiting2 home2 n released2 cs (length cs) marks2 read) made_is
          ∙ (ap (λ (vs : List Waiting). data_of s rings2 vs home2 n released2 (made ++ call ∷ []) (length (made ++ call ∷ [])) marks2 read) waiting_is
          ∙ (ap (λ (rs : List RingData). data_of s rs waiting_left home2 n released2 (made ++ call ∷ []) (length (made ++ call ∷ [])) marks2 read) rings_is
          ∙ (ap (λ (h : List ℕ). data_of s rings_left waiting_left h n released2 (made ++ call ∷ []) (length (made ++ call ∷ [])) marks2 read) home_is
          ∙ (ap (λ (r : ℕ). data_of s rings_left waiting_left (overwritten ws home) n r (made ++ call ∷ []) (length (made ++ call ∷ [])) marks2 read) released_is
          ∙ (ap (λ (ms : List ℕ). data_of s rings_left waiting_left (overwritten ws home) n (max released n) (made ++ call ∷ []) (length (made ++ call ∷ [])) ms read) marks_is ∙ reproduced_is))))))
