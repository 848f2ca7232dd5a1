-- What several calls told, one after another, and up to which number a `SYNC` is told.
use Rattle.std.proofs.Common.{◌≡◌, ℕ, ◌≤◌, Bool, true, false, IsTrue, List, [], ◌∷◌, ◌++◌, length, length-append, refl, sym, ap, ◌∙◌, arith, ⊎_elim, append_assoc}
use Rattle.std.proofs.lemmas.Bool.{both_ways}
use Rattle.std.proofs.lemmas.List.{append-nil}
use Rattle.std.proofs.lemmas.List.Elements.{All-push, All-head, All-weaker}
use Rattle.pmem_trait.specs.Sights.{Sight, state_now}
use Rattle.tatp_model.specs.declared.done.Done.{Done}
use Rattle.tatp_model.specs.OneThread.{is_sync}
use Rattle.back_store.specs.Told.{WereTold}
use Rattle.dude_engine.specs.Endings.{AreSyncsTold, WasToldLast}
use Rattle.dude_engine.specs.Running.{AreSyncsUpTo}

-- where no call failed, a number that was told last is followed by the durable one
pub told_on : (b c : ℕ) (s t u : Sight) → WasToldLast b s t → WereTold true b c (state_now t).told (state_now u).told → WasToldLast c s u
told_on b c s t u (earlier, is, some) (more, none, few, least, how) =
    ⊎_elim
    (λ (was : ((state_now u).told ≡ (state_now t).told ++ more) × (c ≡ b)). (
      earlier,
      was.0 ∙ ap (λ (l : List ℕ). (state_now t).told ++ l) (none refl) ∙ append-nil (state_now t).told ∙ is ∙ ap (λ (n : ℕ). earlier ++ n ∷ []) (sym was.1),
      some,
    ))
    (λ (was : (front : List ℕ) × ((state_now u).told ≡ (state_now t).told ++ front ++ c ∷ more)). (
      (state_now t).told ++ was.0,
      was.1 ∙ ap (λ (l : List ℕ). (state_now t).told ++ was.0 ++ c ∷ l) (none refl),
      omega (arith, some, ap length is, length-append earlier (b ∷ []), length-append (state_now t).told was.0),
    )) how

-- a failed call may have told one more, which is no less
pub told_last : (ok : Bool) (b c : ℕ) (s t u : Sight) → WasToldLast b s t → WereTold ok b c (state_now t).told (state_now u).told → (n : ℕ) × WasToldLast n s u × (c ≤ n)
told_last ok b c s t u told ([], none, few, least, how) =
    let on : WereTold true b c (state_now t).told (state_now u).told = ([], (λ yes. refl), few, least, how) in
    (c, told_on b c s t u told on, omega arith)
told_last ok b c s t u (earlier, is, some) (x ∷ [], none, few, least, how) =
    let up : c ≤ x = All-head (λ n. c ≤ n) x [] least in
    ⊎_elim
    (λ (was : ((state_now u).told ≡ (state_now t).told ++ x ∷ []) × (c ≡ b)). (x, ((state_now t).told, was.0, omega (arith, some, ap length is, length-append earlier (b ∷ []))), up))
    (λ (was : (front : List ℕ) × ((state_now u).told ≡ (state_now t).told ++ front ++ c ∷ x ∷ [])). (
      x,
      (
        (state_now t).told ++ was.0 ++ c ∷ [],
        was.1 ∙ sym (append_assoc ((state_now t).told ++ was.0) (c ∷ []) (x ∷ [])),
        omega (arith, some, ap length is, length-append earlier (b ∷ []), length-append ((state_now t).told ++ was.0) (c ∷ []), length-append (state_now t).told was.0),
      ),
      up,
    )) how
told_last ok b c s t u told (x ∷ y ∷ more, none, few, least, how) = absurd (omega (arith, few))

-- ---- the number of each `SYNC` is told

pub syncs_on : (b c : ℕ) (performed : List Done) (s t u : Sight) → b ≤ c → AreSyncsUpTo b performed s t → WereTold true b c (state_now t).told (state_now u).told → AreSyncsUpTo c performed s u
syncs_on b c performed s t u up syncs tells =
    All-weaker (λ d. IsTrue (is_sync d.request) → WasToldLast b s t × (d.number ≤ b)) (λ d. IsTrue (is_sync d.request) → WasToldLast c s u × (d.number ≤ c))
    (λ d h sync. let was = h sync in (told_on b c s t u was.0 tells, omega (arith, was.1, up))) performed syncs

pub syncs_last : (ok : Bool) (b c : ℕ) (performed : List Done) (s t u : Sight) → b ≤ c → AreSyncsUpTo b performed s t → WereTold ok b c (state_now t).told (state_now u).told → AreSyncsTold performed s u
syncs_last ok b c performed s t u up syncs tells =
    All-weaker (λ d. IsTrue (is_sync d.request) → WasToldLast b s t × (d.number ≤ b)) (λ d. IsTrue (is_sync d.request) → (n : ℕ) × WasToldLast n s u × (d.number ≤ n))
    (λ d h sync. let was = h sync in let last = told_last ok b c s t u was.0 tells in (last.0, last.1, omega (arith, was.1, up, last.2))) performed syncs

pub syncs_told : (b : ℕ) (performed : List Done) (s t : Sight) → AreSyncsUpTo b performed s t → AreSyncsTold performed s t
syncs_told b performed s t syncs =
    All-weaker (λ d. IsTrue (is_sync d.request) → WasToldLast b s t × (d.number ≤ b)) (λ d. IsTrue (is_sync d.request) → (n : ℕ) × WasToldLast n s t × (d.number ≤ n))
    (λ d h sync. let was = h sync in (b, was.0, was.1)) performed syncs

-- one request more, no `SYNC`
pub syncs_other : (b : ℕ) (performed : List Done) (d : Done) (s t : Sight) → is_sync d.request ≡ false → AreSyncsUpTo b performed s t → AreSyncsUpTo b (performed ++ d ∷ []) s t
syncs_other b performed d s t other syncs =
    All-push (λ e. IsTrue (is_sync e.request) → WasToldLast b s t × (e.number ≤ b)) performed d syncs (λ sync. absurd (both_ways (is_sync d.request) other sync))

pub syncs_told_other : (performed : List Done) (d : Done) (s t : Sight) → is_sync d.request ≡ false → AreSyncsTold performed s t → AreSyncsTold (performed ++ d ∷ []) s t
syncs_told_other performed d s t other syncs =
    All-push (λ e. IsTrue (is_sync e.request) → (n : ℕ) × WasToldLast n s t × (e.number ≤ n)) performed d syncs (λ sync. absurd (both_ways (is_sync d.request) other sync))

-- a `SYNC` more
pub syncs_push : (b : ℕ) (performed : List Done) (d : Done) (s t : Sight) → WasToldLast b s t → d.number ≤ b → AreSyncsUpTo b performed s t → AreSyncsUpTo b (performed ++ d ∷ []) s t
syncs_push b performed d s t told within syncs =
    All-push (λ e. IsTrue (is_sync e.request) → WasToldLast b s t × (e.number ≤ b)) performed d syncs (λ sync. (told, within))

pub told_longer : (ok : Bool) (a b : ℕ) (x y : List ℕ) → WereTold ok a b x y → length x ≤ length y
told_longer ok a b x y (more, none, few, least, how) =
    ⊎_elim (λ (was : (y ≡ x ++ more) × (b ≡ a)). omega (arith, ap length was.0, length-append x more))
    (λ (was : (earlier : List ℕ) × (y ≡ x ++ earlier ++ b ∷ more)). omega (arith, ap length was.1, length-append (x ++ was.0) (b ∷ more), length-append x was.0)) how
