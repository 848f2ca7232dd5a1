-- The lines of each lane are those of the first replies of its file.
use Rattle.std.proofs.Common.{◌≡◌, ◌≢◌, ℕ, zero, suc, ◌+◌, ◌<◌, ◌≤◌, List, [], ◌∷◌, ◌++◌, length, drop, get_or, refl, sym, ap, ap₂, ◌∙◌, arith, append_assoc, append-nil, ⊎_elim}
use Rattle.std.specs.Prelude.{All, ◌==◌, false}
use Rattle.std.specs.List.{flat_map}
use Rattle.std.proofs.lemmas.Bool.{cases_lt, eq-eqb}
use Rattle.std.proofs.lemmas.Bool.Decides.{nat_tests}
use Rattle.std.proofs.lemmas.List.{take-append-drop}
use Rattle.std.proofs.lemmas.List.Elements.{All-head, All-tail, filter-append}
use Rattle.tatp_model.specs.declared.done.Done.{Done}
use Rattle.dude_stream.specs.declared.outbox.Outbox.{Outbox}
use Rattle.dude_stream.specs.declared.outlet.Outlet.{Outlet}
use Rattle.dude_stream.specs.Lanes.{HasReceived, received_by, sent_by}
use Rattle.dude_stream.specs.Outboxes.{HasSent}
use Rattle.dude_stream.specs.Printing.{ReceivedMore, Taken, of_lane}
use Rattle.dude_stream.specs.Streams.{AreFirst, of_file}

-- what was received of what was sent of what is done
pub first_of_done : (done received : List Done) (box : Outbox) → HasSent done box → HasReceived (sent_by box.feed) received → HasReceived done received
first_of_done done received box sent first =
    let n = box.sent in (
      first.0 ++ drop n done,
      sym (take-append-drop n done) ∙ (ap (λ (l : List Done). l ++ drop n done) (sym sent.first ∙ first.1) ∙ append_assoc received first.0 (drop n done)),
    )

-- no line is of a lane past the last one
lane_past : (lane n : ℕ) (lines : List Taken) → n ≤ lane → All (λ (l : Taken). l.lane < n) lines → of_lane lane lines ≡ []
lane_past lane n [] past inside = refl
lane_past lane n (l ∷ ls) past inside =
    let here : l.lane < n = All-head (λ (x : Taken). x.lane < n) l ls inside in
    let other : (l.lane == lane) ≡ false = grind (arith, nat_tests) in
    rw other (lane_past lane n ls past (All-tail (λ (x : Taken). x.lane < n) l ls inside))

-- some element of a list that has one
element : {A : Type 0} (xs : List A) (k : ℕ) → k < length xs → A
element [] k within = absurd (omega arith)
element (x ∷ xs) k within = x

-- ---- replies of one file
file_own : (file : ℕ) (done : List Done) → All (λ (d : Done). d.file ≡ file) done → of_file file done ≡ done
file_own file [] own = refl
file_own file (d ∷ ds) own =
    rw (eq-eqb d.file file (All-head (λ (x : Done). x.file ≡ file) d ds own))
    (ap (λ (l : List Done). d ∷ l) (file_own file ds (All-tail (λ (x : Done). x.file ≡ file) d ds own)))

file_other : (file n : ℕ) (done : List Done) → file ≢ n → All (λ (d : Done). d.file ≡ n) done → of_file file done ≡ []
file_other file n [] other own = refl
file_other file n (d ∷ ds) other own =
    let here : d.file ≡ n = All-head (λ (x : Done). x.file ≡ n) d ds own in
    let test : (d.file == file) ≡ false = grind (arith, nat_tests) in
    rw test (file_other file n ds other (All-tail (λ (x : Done). x.file ≡ n) d ds own))

module _ {J : Type 0} (done_of : J → List Done) where
  -- each has replies of one file, of which the first one has this number
  abbrev pub AreOfFiles : ℕ → List J → Type 0
  AreOfFiles n js = (k m : ℕ) (d : J) → k < length js → m ≡ n + k → All (λ (x : Done). x.file ≡ m) (done_of (get_or js k d))

  files_behind : (n : ℕ) (j : J) (js : List J) → AreOfFiles n (j ∷ js) → AreOfFiles (n + 1) js
  files_behind n j js own k m d within is = own (suc k) m d (omega arith) (omega arith)

  file_first : (n : ℕ) (j : J) (js : List J) → AreOfFiles n (j ∷ js) → All (λ (x : Done). x.file ≡ n) (done_of j)
  file_first n j js own = own 0 n j (omega arith) (omega arith)

  file_before : (file n : ℕ) (js : List J) → file < n → AreOfFiles n js → of_file file (flat_map done_of js) ≡ []
  file_before file n [] past own = refl
  file_before file n (j ∷ js) past own =
      filter-append (λ (d : Done). d.file == file) (done_of j) (flat_map done_of js)
      ∙ ap₂ (λ (a b : List Done). a ++ b) (file_other file n (done_of j) (λ e. omega arith) (file_first n j js own)) (file_before file (n + 1) js (omega arith) (files_behind n j js own))

  file_at : (file n k : ℕ) (js : List J) (d : J) → file ≡ n + k → k < length js → AreOfFiles n js → of_file file (flat_map done_of js) ≡ done_of (get_or js k d)
  file_at file n k [] d is within own = absurd (omega arith)
  file_at file n zero (j ∷ js) d is within own =
      filter-append (λ (x : Done). x.file == file) (done_of j) (flat_map done_of js)
      ∙ (ap₂ (λ (a b : List Done). a ++ b) (file_own file (done_of j) (own 0 file j (omega arith) (omega arith))) (file_before file (n + 1) js (omega arith) (files_behind n j js own))
      ∙ append-nil (done_of j))
  file_at file n (suc k) (j ∷ js) d is within own =
      filter-append (λ (x : Done). x.file == file) (done_of j) (flat_map done_of js)
      ∙ ap₂ (λ (a b : List Done). a ++ b) (file_other file n (done_of j) (λ e. omega arith) (file_first n j js own)) (file_at file (n + 1) k js d (omega arith) (omega arith) (files_behind n j js own))

  -- what was received from each lane is the first part of what its file has
  module _ (js : List J) (from now : List Outlet) (lines : List Taken) (h : ReceivedMore lines from now) (none : (k : ℕ) (o : Outlet) → k < length from → received_by (get_or from k o).drain ≡ [])
      (count : length js ≡ length from) (own : AreOfFiles 0 js) (sent : (k : ℕ) (j : J) (o : Outlet) → k < length js → HasReceived (done_of (get_or js k j)) (received_by (get_or now k o).drain)) where
    first_at : (file : ℕ) (j : J) (o : Outlet) → file < length from → HasReceived (of_file file (flat_map done_of js)) (of_lane file lines)
    first_at file j o within =
        let taken = of_lane file lines in
        let gave = h.each file o within in
        let got = sent file j o (omega arith) in (
          gave.more ++ got.0,
          file_at file 0 file js j (omega arith) (omega arith) own
              ∙ (got.1 ∙ (ap (λ (l : List Done). l ++ got.0) (gave.received ∙ ap (λ (l : List Done). (l ++ taken) ++ gave.more) (none file o within)) ∙ append_assoc taken gave.more got.0)),
        )

    first_past : (file : ℕ) → length from ≤ file → HasReceived (of_file file (flat_map done_of js)) (of_lane file lines)
    first_past file past =
        let all = of_file file (flat_map done_of js) in
        (all, ap (λ (l : List Done). l ++ all) (sym (lane_past file (length from) lines past h.inside)))

    pub first_lines : AreFirst lines (flat_map done_of js)
    first_lines file = ⊎_elim (λ (within : file < length from). first_at file (element js file (omega arith)) (element from file within) within) (first_past file) (cases_lt file (length from))
