-- How a run grows by one request at its end.
use Rattle.std.proofs.Common.{◌≡◌, ℕ, ◌≤◌, Bool, true, false, ◌&&◌, cond, List, [], ◌∷◌, ◌++◌, map, Option, Some, None, refl, ap, sym, ◌∙◌, ⊎_elim}
use Rattle.std.specs.Prelude.{nat_le, if◌then◌else◌}
use Rattle.std.specs.List.{All}
use Rattle.std.specs.Option.{option_map_or}
use Rattle.std.proofs.lemmas.Bool.{cases_Bool, le-leb, and_from, and_left}
use Rattle.std.proofs.lemmas.List.Elements.{All-head, All-tail}
use Rattle.tatp_model.specs.declared.done.Done.{Done}
use Rattle.tatp_model.specs.declared.sub_row.SubRow.{SubRow}
use Rattle.tatp_model.specs.declared.reply.Reply.{Reply}
use Rattle.tatp_model.specs.declared.request.Request.{Request}
use Rattle.tatp_model.specs.declared.request.Request.TheVariants.{GetSubscriber, GetDestination, GetAccess, UpdateSubscriber, UpdateLocation, InsertCall, DeleteCall, Sync}
use Rattle.tatp_model.specs.Database.{Database}
use Rattle.tatp_model.specs.Transaction.{Outcome, answers, changes, outcome_of, reply_to, after_request}
use Rattle.tatp_model.specs.OneThread.{is_changed, RepliesAlong, after_requests, after_number}

-- the database after all requests of an order
abbrev pub after_order : ℕ → Database → List Done → Database
after_order limit db order = after_requests limit db (map (λ d. d.request) order)

pub after_requests-append : (limit : ℕ) (db : Database) (xs ys : List Request) → after_requests limit db (xs ++ ys) ≡ after_requests limit (after_requests limit db xs) ys
after_requests-append limit db [] ys = refl
after_requests-append limit db (x ∷ xs) ys = after_requests-append limit (after_request limit db x) xs ys

pub after_order-push : (limit : ℕ) (db : Database) (order : List Done) (d : Done) → after_order limit db (order ++ d ∷ []) ≡ after_request limit (after_order limit db order) d.request
after_order-push limit db [] d = refl
after_order-push limit db (e ∷ order) d = after_order-push limit (after_request limit db e.request) order d

-- one more request, answered at the tables after the others
pub RepliesAlong-push : (limit : ℕ) (db : Database) (order : List Done) (d : Done) → RepliesAlong limit db order → d.reply ≡ reply_to limit (after_order limit db order) d.request → d.wrote ≡ is_changed d.reply → RepliesAlong limit db (order ++ d ∷ [])
RepliesAlong-push limit db [] d so_far reply wrote = (reply, wrote, tt)
RepliesAlong-push limit db (e ∷ order) d so_far reply wrote =
    (so_far.0, so_far.1, RepliesAlong-push limit (after_request limit db e.request) order d so_far.2 reply wrote)

-- one more request counts up to n exactly where it wrote with a number up to n
pub after_number-push : (limit : ℕ) (db : Database) (order : List Done) (d : Done) (n : ℕ) → after_number limit db (order ++ d ∷ []) n ≡ (if d.wrote && nat_le d.number n then after_request limit (after_number limit db order n) d.request else after_number limit db order n)
after_number-push limit db [] d n = ⊎_elim (λ e. rw e refl) (λ e. rw e refl) (cases_Bool (d.wrote && nat_le d.number n))
after_number-push limit db (e ∷ order) d n =
    ⊎_elim (λ h. rw h (after_number-push limit (after_request limit db e.request) order d n)) (λ h. rw h (after_number-push limit db order d n)) (cases_Bool (e.wrote && nat_le e.number n))

-- an outcome that isn't `Changed` leaves the tables
record LeavesTables (db : Database) (o : Outcome) : Type 0 where
  same : is_changed o.reply ≡ false → o.after ≡ db

leaves_answers : (db : Database) (reply : Reply) → LeavesTables db (answers db reply)
leaves_answers db reply = record { same = λ unchanged. refl }

leaves_changes : (db after : Database) → LeavesTables db (changes after)
leaves_changes db after = record { same = λ unchanged. cc }

leaves_cond : (db : Database) (b : Bool) (x y : Outcome) → LeavesTables db x → LeavesTables db y → LeavesTables db (cond b x y)
leaves_cond db true x y hx hy = hx
leaves_cond db false x y hx hy = hy

leaves_map_or : (db : Database) (f : SubRow → Outcome) (o : Option SubRow) (y : Outcome) → ((r : SubRow) → LeavesTables db (f r)) → LeavesTables db y → LeavesTables db (option_map_or f o y)
leaves_map_or db f None y hf hy = hy
leaves_map_or db f (Some r) y hf hy = hf r

leaves_request : (limit : ℕ) (db : Database) (request : Request) → LeavesTables db (outcome_of limit db request)
leaves_request limit db (GetSubscriber s) = search (leaves_answers, leaves_changes, leaves_cond, leaves_map_or)
leaves_request limit db (GetDestination s f t u) = search (leaves_answers, leaves_changes, leaves_cond, leaves_map_or)
leaves_request limit db (GetAccess s a) = search (leaves_answers, leaves_changes, leaves_cond, leaves_map_or)
leaves_request limit db (UpdateSubscriber s b f d) = search (leaves_answers, leaves_changes, leaves_cond, leaves_map_or)
leaves_request limit db (UpdateLocation n v) = search (leaves_answers, leaves_changes, leaves_cond, leaves_map_or)
leaves_request limit db (InsertCall n f t u x) = search (leaves_answers, leaves_changes, leaves_cond, leaves_map_or)
leaves_request limit db (DeleteCall n f t) = search (leaves_answers, leaves_changes, leaves_cond, leaves_map_or)
leaves_request limit db Sync = search (leaves_answers, leaves_changes, leaves_cond, leaves_map_or)

-- a request that isn't answered `Changed` leaves the tables as they were
pub after_request-unchanged : (limit : ℕ) (db : Database) (request : Request) → is_changed (reply_to limit db request) ≡ false → after_request limit db request ≡ db
after_request-unchanged limit db request unchanged = (leaves_request limit db request).same unchanged

-- up to a number that none is over, `after_number` is the database after the whole order
pub after_number-all : (limit : ℕ) (db : Database) (order : List Done) (n : ℕ) → RepliesAlong limit db order → All (λ d. d.number ≤ n) order → after_number limit db order n ≡ after_order limit db order
after_number-all limit db [] n along within = refl
after_number-all limit db (e ∷ order) n along within =
    let counted : nat_le e.number n ≡ true = le-leb e.number n (All-head (λ d. d.number ≤ n) e order within) in
    let rest = after_number-all limit (after_request limit db e.request) order n along.2 (All-tail (λ d. d.number ≤ n) e order within) in
    ⊎_elim (λ h. let both : (e.wrote && nat_le e.number n) ≡ true = and_from e.wrote (nat_le e.number n) h counted in rw both rest) (λ h. let same : after_request limit db e.request ≡ db = after_request-unchanged limit db e.request (ap is_changed (sym along.0) ∙ sym along.1 ∙ h) in
    let left : (e.wrote && nat_le e.number n) ≡ false = and_left e.wrote (nat_le e.number n) h in
    rw left (ap (λ d. after_number limit d order n) (sym same) ∙ rest)) (cases_Bool e.wrote)
