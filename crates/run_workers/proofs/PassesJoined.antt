-- Passes are split off one, are joined, and come back.
use Rattle.std.proofs.Common.{◌≡◌, ℕ, zero, suc, ◌+◌, ◌-◌, ◌*◌, ◌<◌, ◌≤◌, Bool, true, false, List, [], ◌∷◌, ◌++◌, length, get_or, take, map, Option, Some, refl, ap, ap₂, sym, ◌∙◌, subst, arith, ⊎_elim, append_assoc, length-append}
use Rattle.std.specs.Prelude.{Any, max, ◌||◌}
use Rattle.std.specs.List.{All, flat_map, range_with_len, sum_by}
use Rattle.std.specs.Vec.{vec_capacity}
use Rattle.std.proofs.lemmas.Bool.{cases_Bool, true≢false}
use Rattle.std.proofs.lemmas.List.{append-nil, get_or-map, map_push, take-map, take_more}
use Rattle.std.proofs.lemmas.List.Concat.{flat_map-append}
use Rattle.std.proofs.lemmas.List.Elements.{All-nil, All-cons, All-head, All-push, All-weaker, Contains-append_left, Contains-push_cases}
use Rattle.std.proofs.lemmas.List.Quantifiers.{Any-push}
use Rattle.std.proofs.lemmas.List.Sums.{sum_by-cons, sum_by-drop_more, sum_by-take-le, sum_by_push}
use Rattle.tatp_model.specs.declared.request.Request.{Request}
use Rattle.run_order.proofs.Pairs.{all_before, all_behind}
use Rattle.core_events.specs.Keyed.{one_if}
use Rattle.core_events.specs.Views.{Entry, View}
use Rattle.core_events.specs.Partings.{both_of, thread_list}
use Rattle.core_table.specs.Layout.{TableSight}
use Rattle.stm_transactions.specs.declared.pass_numbers.PassNumbers.{PassNumbers}
use Rattle.stm_transactions.specs.Numbers.{both_numbers, left_numbers, newcomer_numbers}
use Rattle.stm_transactions.specs.Partings.{IsJoined, IsSplitOff}
use Rattle.stm_transactions.specs.Passes.{PassSight, IsResting, entry_numbers, greatest, pass_view}
use Rattle.run_workers.specs.declared.job.Job.{Job}
use Rattle.run_workers.specs.Job.{IsFresh, requests_of, thread_count}
use Rattle.run_workers.specs.Jobs.{AreJobs, MayShare, request_count}
use Rattle.run_workers.specs.Joined.{TookIn}
use Rattle.run_workers.specs.Partings.{AreShared, HasParted, HasTakenBack, IsNewcomer, IsPartOf}

-- a view that takes in one of a thread has the threads of both
both_count : (v w : View) (thread : ℕ) → w.part.thread ≡ Some thread → thread_count (both_of v w) ≡ thread_count v + thread_count w
both_count v w thread is =
    let a = length-append v.part.ended (thread_list w.part.thread ++ w.part.ended) in
    let b = length-append (thread_list w.part.thread) w.part.ended in
    let c : length (thread_list w.part.thread) ≡ 1 = ap (λ (o : Option ℕ). length (thread_list o)) is in
    let d : one_if w.part.thread ≡ 1 = ap one_if is in
    omega arith

-- the elements of one more list
pub flat_map_push : {A B : Type 0} (f : A → List B) (xs : List A) (x : A) → flat_map f (xs ++ x ∷ []) ≡ flat_map f xs ++ f x
flat_map_push f xs x = flat_map-append f xs (x ∷ []) ∙ ap (λ l. flat_map f xs ++ l) (append-nil (f x))

or_false : (b : Bool) → (b || false) ≡ b
or_false true = refl
or_false false = refl

or_left : (a b : Bool) → a ≡ true → (a || b) ≡ true
or_left true b is = refl
or_left false b is = absurd (true≢false (sym is))

or_right : (a b : Bool) → b ≡ true → (a || b) ≡ true
or_right true b is = refl
or_right false b is = is

-- the first number is no greater than the greatest
from_first : (first : ℕ) (ns : List ℕ) → first ≤ greatest first ns
from_first first [] = omega arith
from_first first (n ∷ ns) = let h = from_first first ns in omega arith

-- numbers that are others but for their draws and splits
with_parts : PassNumbers → PassNumbers → PassNumbers
with_parts f g = record f { left = g.left; splits = g.splits }

module _ {X K : Type 0} (t : TableSight K) where
  abbrev count_of : Job X → ℕ
  count_of job = thread_count (pass_view job.pass)

  abbrev left_in : Job X → ℕ
  left_in job = job.pass.numbers.left

  abbrev entries_of : Job X → List Entry
  entries_of job = (pass_view job.pass).entries

  abbrev HasMet : Job X → Type 0
  HasMet job = job.pass.numbers.met_fault ≡ true

  -- ---- joined
  pub took_one : (job : Job X) → IsResting t job.pass → TookIn t (job ∷ []) job.pass
  took_one job rests = record {
    rests = rests;
    threads = omega arith;
    entries = sym (append-nil (entries_of job));
    left = omega arith;
    durable = All-cons (λ (j : Job X). j.pass.numbers.durable ≤ job.pass.numbers.durable) job [] (omega arith) (All-nil (λ (j : Job X). j.pass.numbers.durable ≤ job.pass.numbers.durable));
    met_fault = ((λ met. (0, job, (omega arith), refl, met)), (λ a. only a));
  }
    where
      only : Any HasMet (job ∷ []) → job.pass.numbers.met_fault ≡ true
      only (zero, x, within, is, met) = ap (λ (y : Job X). y.pass.numbers.met_fault) is ∙ met
      only (suc n, x, within, is, met) = absurd (omega (arith, within))

  pub took_push : (js : List (Job X)) (job : Job X) (p r : PassSight X) → TookIn t js p → IsResting t job.pass → IsJoined t p job.pass r → TookIn t (js ++ job ∷ []) r
  took_push js job p r h rests j =
      let n = j.numbers in
      let durable : r.numbers.durable ≡ max p.numbers.durable job.pass.numbers.durable = ap (λ (x : PassNumbers). x.durable) n in
      let met : r.numbers.met_fault ≡ (p.numbers.met_fault || job.pass.numbers.met_fault) = ap (λ (x : PassNumbers). x.met_fault) n in
      record {
        rests = j.rests;
        threads = ap thread_count j.view ∙ both_count (pass_view p) (pass_view job.pass) job.pass.numbers.thread rests.numbers.of.its ∙ ap (λ (m : ℕ). m + count_of job) h.threads ∙ sym (sum_by_push count_of js job);
        entries = ap (λ (v : View). v.entries) j.view ∙ ap (λ (l : List Entry). l ++ entries_of job) h.entries ∙ sym (flat_map_push entries_of js job);
        left = ap (λ (x : PassNumbers). x.left) n ∙ ap (λ (m : ℕ). m + left_in job) h.left ∙ sym (sum_by_push left_in js job);
        durable = All-push (λ (x : Job X). x.pass.numbers.durable ≤ r.numbers.durable) js job
            (All-weaker (λ (x : Job X). x.pass.numbers.durable ≤ p.numbers.durable) (λ (x : Job X). x.pass.numbers.durable ≤ r.numbers.durable) (λ x u. omega arith) js h.durable) (omega arith);
        met_fault = (
          (λ is. ⊎_elim (λ before. more (h.met_fault.0 before)) (λ not_before. Any-push HasMet js job (second not_before (sym met ∙ is))) (cases_Bool p.numbers.met_fault)),
          (λ a. met ∙ ⊎_elim (λ c. or_left p.numbers.met_fault job.pass.numbers.met_fault (h.met_fault.1 (c.0, a.1, c.1, c.2, a.4)))
              (λ same. or_right p.numbers.met_fault job.pass.numbers.met_fault (ap (λ (y : Job X). y.pass.numbers.met_fault) same ∙ a.4))
              (Contains-push_cases js job a.1 (a.0, a.2, a.3))),
        );
      }
    where
      second : p.numbers.met_fault ≡ false → (p.numbers.met_fault || job.pass.numbers.met_fault) ≡ true → job.pass.numbers.met_fault ≡ true
      second absent is = subst (λ (b : Bool). (b || job.pass.numbers.met_fault) ≡ true) absent is

      more : Any HasMet js → Any HasMet (js ++ job ∷ [])
      more a = let c = Contains-append_left js (job ∷ []) a.1 (a.0, a.2, a.3) in (c.0, a.1, c.1, c.2, a.4)

  -- ---- taken back
  pub back_next : (job : Job X) (popped : List (Job X)) (p q r : PassSight X) → IsResting t p → t.setup.first ≤ p.numbers.durable → IsNewcomer t job.pass → HasTakenBack t popped p q → IsJoined t q job.pass r → HasTakenBack t (job ∷ popped) p r
  back_next job popped p q r rests from newcomer h j =
      let f = p.numbers in
      let g = newcomer_numbers job.pass.numbers.thread job.pass.numbers.left t.setup.first in
      let two : r.numbers ≡ both_numbers (record f { left = q.numbers.left; splits = q.numbers.splits }) g = j.numbers ∙ ap₂ (λ (x y : PassNumbers). both_numbers x y) h.numbers newcomer.numbers in
      let last : max f.last t.setup.first ≡ f.last = (let l = rests.numbers.last in let u = from_first t.setup.first (entry_numbers (pass_view p).entries) in omega arith) in
      let durable : max f.durable t.setup.first ≡ f.durable = omega arith in
      let left : r.numbers.left ≡ q.numbers.left + job.pass.numbers.left = ap (λ (x : PassNumbers). x.left) two in
      record {
        rests = j.rests;
        entries = ap (λ (v : View). v.entries) j.view ∙ ap (λ (l : List Entry). (pass_view q).entries ++ l) newcomer.no_entry ∙ append-nil (pass_view q).entries ∙ h.entries;
        numbers = settle two last durable (or_false f.met_fault);
        left = (let l = h.left in omega (arith, sum_by-cons left_in job popped));
        threads = ap thread_count j.view ∙ both_count (pass_view q) (pass_view job.pass) job.pass.numbers.thread newcomer.rests.numbers.of.its ∙ (let h2 = h.threads in omega (arith, sum_by-cons count_of job popped));
      }
    where
      settle : r.numbers ≡ both_numbers (record p.numbers { left = q.numbers.left; splits = q.numbers.splits }) (newcomer_numbers job.pass.numbers.thread job.pass.numbers.left t.setup.first)
          → max p.numbers.last t.setup.first ≡ p.numbers.last → max p.numbers.durable t.setup.first ≡ p.numbers.durable → (p.numbers.met_fault || false) ≡ p.numbers.met_fault
          → r.numbers ≡ record p.numbers { left = r.numbers.left; splits = r.numbers.splits }
      settle two last durable met =
          let mixed : ℕ → ℕ → Bool → PassNumbers = λ a d b. record p.numbers { last = a; durable = d; met_fault = b; left = q.numbers.left + job.pass.numbers.left; splits = q.numbers.splits + 0 } in
          let one : r.numbers ≡ mixed p.numbers.last p.numbers.durable p.numbers.met_fault = two ∙ ap (λ (a : ℕ). mixed a (max p.numbers.durable t.setup.first) (p.numbers.met_fault || false)) last
          ∙ ap (λ (d : ℕ). mixed p.numbers.last d (p.numbers.met_fault || false)) durable ∙ ap (λ (b : Bool). mixed p.numbers.last p.numbers.durable b) met in
          let again : mixed p.numbers.last p.numbers.durable p.numbers.met_fault ≡ record p.numbers { left = r.numbers.left; splits = r.numbers.splits } = ap (λ (x : PassNumbers). let y : PassNumbers = record p.numbers { left = x.left; splits = x.splits } in y) (sym one) in
          one ∙ again

  -- the pass of the last job rests
  pub popped_rests : (jobs left : List (Job X)) (job : Job X) → jobs ≡ left ++ job ∷ [] → All (λ j. IsNewcomer t j.pass) jobs → IsResting t job.pass
  popped_rests jobs left job parts newcomers =
      let each = subst (λ (l : List (Job X)). All (λ x. IsNewcomer t x.pass) l) parts newcomers in (All-head (λ (x : Job X). IsNewcomer t x.pass) job [] (all_behind (λ (x : Job X). IsNewcomer t x.pass) left (job ∷ []) each)).rests

  -- the last job was popped, and its pass came back
  pub back_popped : (jobs left popped all : List (Job X)) (job : Job X) (p q r : PassSight X) → IsResting t p → t.setup.first ≤ p.numbers.durable → jobs ≡ left ++ job ∷ [] → All (λ j. IsNewcomer t j.pass) jobs → jobs ++ popped ≡ all → HasTakenBack t popped p q
      → IsJoined t q job.pass r → All (λ j. IsNewcomer t j.pass) left × ((more : List (Job X)) × (left ++ more ≡ all) × HasTakenBack t more p r)
  back_popped jobs left popped all job p q r rests from parts newcomers whole h j =
      let each = subst (λ (l : List (Job X)). All (λ x. IsNewcomer t x.pass) l) parts newcomers in (
        all_before (λ (x : Job X). IsNewcomer t x.pass) left (job ∷ []) each,
        (
          job ∷ popped,
          sym (append_assoc left (job ∷ []) popped) ∙ ap (λ (l : List (Job X)). l ++ popped) (sym parts) ∙ whole,
          back_next job popped p q r rests from (All-head (λ (x : Job X). IsNewcomer t x.pass) job [] (all_behind (λ (x : Job X). IsNewcomer t x.pass) left (job ∷ []) each)) h j,
        ),
      )

  -- ---- split off
  module _ (file : ℕ) (requests : List Request) (p q r : PassSight X) (jobs : List (Job X)) (job : Job X) (draws : 65 * length requests ≤ q.numbers.left) (part : IsPartOf t file requests q r job) where
    s : IsSplitOff t (65 * length requests) q r job.pass
    s = part.split

    its_left : job.pass.numbers.left ≡ 65 * length requests
    its_left = ap (λ (x : PassNumbers). x.left) s.new_numbers

    its_count : count_of job ≡ 1
    its_count = ap thread_count s.new_view

    its_entries : entries_of job ≡ []
    its_entries = ap (λ (v : View). v.entries) s.new_view

    left_now : r.numbers.left ≡ q.numbers.left - 65 * length requests
    left_now = ap (λ (x : PassNumbers). x.left) s.numbers

    pub parted_next : HasParted t p q jobs → HasParted t p r (jobs ++ job ∷ [])
    parted_next h =
        let l = h.left in let c = h.threads in let some = s.some in
        let splits : (pass_view q).part.splits ≡ q.numbers.splits = h.rests.numbers.splits in
        let now : thread_count (pass_view r) + 1 ≡ thread_count (pass_view q) = one_less splits some (ap thread_count s.view) in
        record {
          rests = s.rests;
          entries = ap (λ (v : View). v.entries) s.view ∙ h.entries;
          numbers = settle h;
          left = (let a = its_left in let b = left_now in omega (arith, sum_by_push left_in jobs job));
          threads = (let a = its_count in omega (arith, sum_by_push count_of jobs job));
          newcomers = All-push (λ (x : Job X). IsNewcomer t x.pass) jobs job h.newcomers (record {
            rests = s.other;
            no_entry = its_entries;
            numbers = s.new_numbers ∙ ap₂ (λ (d o : ℕ). newcomer_numbers job.pass.numbers.thread d o) (sym its_left) h.rests.numbers.opening;
          });
        }
      where
        one_less : (pass_view q).part.splits ≡ q.numbers.splits → 0 < q.numbers.splits → thread_count (pass_view r) ≡ one_if (pass_view q).part.thread + length (pass_view q).part.ended + ((pass_view q).part.splits - 1)
            → thread_count (pass_view r) + 1 ≡ thread_count (pass_view q)
        one_less is some now = omega arith

        settle : HasParted t p q jobs → r.numbers ≡ record p.numbers { left = r.numbers.left; splits = r.numbers.splits }
        settle h =
            let one : r.numbers ≡ record p.numbers { left = q.numbers.left - 65 * length requests; splits = q.numbers.splits - 1 } = s.numbers ∙ ap (λ (x : PassNumbers). left_numbers (65 * length requests) x) h.numbers in
            one ∙ ap (λ (x : PassNumbers). let y : PassNumbers = record p.numbers { left = x.left; splits = x.splits } in y) (sym one)

    pub shared_next : (files : List (List Request)) → file < length files → 1 ≤ file → requests ≡ requests_of files file → IsResting t q → AreShared t files file q jobs → AreShared t files (file + 1) r (jobs ++ job ∷ [])
    shared_next files there behind is rests h =
        let its : requests_of files job.file ≡ requests = ap (requests_of files) part.file_is ∙ sym is in
        let split_left : r.numbers.splits ≡ q.numbers.splits - 1 = ap (λ (x : PassNumbers). x.splits) s.numbers in
        let rest = sum_by-drop_more (λ (l : List Request). length l) files file [] there in
        let long : length (requests_of files file) ≡ length requests = ap length (sym is) in
        record {
          each = All-push (λ (x : Job X). IsFresh t (requests_of files x.file) x) jobs job h.each (subst (λ (l : List Request). IsFresh t l job) (sym its) (record {
            rests = s.other;
            no_entry = its_entries;
            no_fault = ap (λ (x : PassNumbers). x.met_fault) s.new_numbers;
            from = (let d = ap (λ (x : PassNumbers). x.durable) s.new_numbers in let o = rests.numbers.opening in omega arith);
            draws = (let a = its_left in omega arith);
            none = part.none;
            room = part.room;
          }));
          in_order = map_push (λ (x : Job X). x.file) jobs job ∙ ap₂ (λ (l : List ℕ) (n : ℕ). l ++ n ∷ []) h.in_order part.file_is ∙ sym (range_next behind);
          draws = (let d = h.draws in let a = left_now in omega arith);
          splits = (let d = h.splits in let some = s.some in omega arith);
        }
      where
        range_more : (a n : ℕ) → range_with_len a (suc n) ≡ range_with_len a n ++ (a + n) ∷ []
        range_more a zero = let e : a ≡ a + 0 = omega arith in ap (λ (m : ℕ). m ∷ []) e
        range_more a (suc n) = let e : a + 1 + n ≡ a + suc n = omega arith in ap (λ (l : List ℕ). a ∷ l) (range_more (a + 1) n ∙ ap (λ (m : ℕ). range_with_len (a + 1) n ++ m ∷ []) e)

        range_next : 1 ≤ file → range_with_len 1 (file + 1 - 1) ≡ range_with_len 1 (file - 1) ++ file ∷ []
        range_next le =
            let e : file + 1 - 1 ≡ suc (file - 1) = omega arith in let f : 1 + (file - 1) ≡ file = omega arith in
            ap (range_with_len 1) e ∙ range_more 1 (file - 1) ∙ ap (λ (m : ℕ). range_with_len 1 (file - 1) ++ m ∷ []) f

  -- the draws of the next file are there
  pub draws_here : (files : List (List Request)) (file : ℕ) (requests : List Request) (q : PassSight X) (jobs : List (Job X)) → file < length files → requests ≡ requests_of files file → AreShared t files file q jobs → 65 * length requests ≤ q.numbers.left
  draws_here files file requests q jobs there is h =
      let rest = sum_by-drop_more (λ (l : List Request). length l) files file [] there in let long : length (requests_of files file) ≡ length requests = ap length (sym is) in let d = h.draws in omega arith

  -- with the job of the first file all files have theirs
  pub all_shared : (files : List (List Request)) (p q : PassSight X) (job : Job X) (jobs : List (Job X)) → MayShare t files p → HasParted t p q jobs → AreShared t files (length files) q jobs
      → job.file ≡ 0 → job.pass ≡ q → job.done.items ≡ [] → length (requests_of files 0) ≤ vec_capacity job.done → AreJobs t files (IsFresh t) (job ∷ jobs)
  all_shared files p q job jobs may parted shared at_file is none room =
      let its : requests_of files job.file ≡ requests_of files 0 = ap (requests_of files) at_file in
      let durable : q.numbers.durable ≡ p.numbers.durable = ap (λ (x : PassNumbers). x.durable) parted.numbers in
      record {
        each = All-cons (λ (x : Job X). IsFresh t (requests_of files x.file) x) job jobs (subst (λ (l : List Request). IsFresh t l job) (sym its) (record {
          rests = subst (λ (x : PassSight X). IsResting t x) (sym is) parted.rests;
          no_entry = ap (λ (x : PassSight X). (pass_view x).entries) is ∙ parted.entries ∙ may.no_entry;
          no_fault = ap (λ (x : PassSight X). x.numbers.met_fault) is ∙ ap (λ (x : PassNumbers). x.met_fault) parted.numbers ∙ may.no_fault;
          from = subst (λ (x : PassSight X). t.setup.first ≤ x.numbers.durable) (sym is) (let f = may.from in omega arith);
          draws = subst (λ (x : PassSight X). 65 * length (requests_of files 0) ≤ x.numbers.left) (sym is) (let d = shared.draws in omega arith);
          none = none;
          room = room;
        })) shared.each;
        in_order = ap₂ (λ (n : ℕ) (l : List ℕ). n ∷ l) at_file shared.in_order ∙ ordered files may.some;
        threads = sum_by-cons count_of job jobs ∙ ap (λ (x : PassSight X). thread_count (pass_view x) + sum_by count_of jobs) is ∙ parted.threads ∙ may.all;
      }
    where
      ordered : (l : List (List Request)) → 0 < length l → 0 ∷ range_with_len 1 (length l - 1) ≡ range_with_len 0 (length l)
      ordered [] some = absurd (omega arith)
      ordered (x ∷ xs) some = let e : suc (length xs) - 1 ≡ length xs = omega arith in ap (λ (n : ℕ). 0 ∷ range_with_len 1 n) e

-- the first file has no more requests than all files
pub first_count : (files : List (List Request)) → length (requests_of files 0) ≤ request_count files
first_count [] = omega arith
first_count (r ∷ rs) = omega (arith, sum_by-cons (λ (l : List Request). length l) r rs)

-- files as they stand in memory
module _ {A : Type 0} (items : A → List Request) where
  -- the requests of one that was looked up
  pub file_at : (files : List A) (k : ℕ) (v : A) → k < length files → v ≡ get_or files k v → items v ≡ requests_of (map items files) k
  file_at files k v there is = ap items is ∙ sym (get_or-map items files k v [] there)

  -- how many requests the first ones have
  pub count_more : (files : List A) (i : ℕ) (v : A) → i < length files → v ≡ get_or files i v → request_count (map items (take (i + 1) files)) ≡ request_count (map items (take i files)) + length (items v)
  count_more files i v there is =
      ap (λ (l : List A). request_count (map items l)) (take_more files i v there ∙ ap (λ (x : A). take i files ++ x ∷ []) (sym is)) ∙ ap request_count (map_push items (take i files) v)
      ∙ sum_by_push (λ (l : List Request). length l) (map items (take i files)) (items v)

  pub count_upto : (files : List A) (i : ℕ) → request_count (map items (take i files)) ≤ request_count (map items files)
  count_upto files i = subst (λ (l : List (List Request)). request_count l ≤ request_count (map items files)) (take-map items i files) (sum_by-take-le (λ (l : List Request). length l) (map items files) i)
