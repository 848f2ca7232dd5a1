-- What one thread answers along two lists in a row, and along one with a request put in.
use Rattle.std.proofs.Common.{◌≡◌, ℕ, true, false, List, [], ◌∷◌, ◌++◌, refl, ap, sym, ◌∙◌}
use Rattle.std.specs.List.{All}
use Rattle.std.proofs.lemmas.List.Elements.{All-head, All-tail}
use Rattle.tatp_model.specs.declared.done.Done.{Done}
use Rattle.tatp_model.specs.declared.request.Request.{Request}
use Rattle.tatp_model.specs.declared.request.Request.TheVariants.{GetSubscriber, GetDestination, GetAccess, UpdateSubscriber, UpdateLocation, InsertCall, DeleteCall, Sync}
use Rattle.tatp_model.specs.declared.reply.Reply.TheVariants.{Durable}
use Rattle.tatp_model.specs.Database.{Database}
use Rattle.tatp_model.specs.Transaction.{reply_to, after_request}
use Rattle.tatp_model.specs.OneThread.{is_sync, is_changed, RepliesAlong}
use Rattle.tatp_model.proofs.Run.{after_order, after_request-unchanged}

-- a `Sync` is answered `Durable`
pub sync_reply : (limit : ℕ) (db : Database) (request : Request) → is_sync request ≡ true → reply_to limit db request ≡ Durable
sync_reply limit db (GetSubscriber s) sync = cc
sync_reply limit db (GetDestination s f t u) sync = cc
sync_reply limit db (GetAccess s a) sync = cc
sync_reply limit db (UpdateSubscriber s b f d) sync = cc
sync_reply limit db (UpdateLocation n v) sync = cc
sync_reply limit db (InsertCall n f t u x) sync = cc
sync_reply limit db (DeleteCall n f t) sync = cc
sync_reply limit db Sync sync = refl

pub after_order-append : (limit : ℕ) (db : Database) (xs ys : List Done) → after_order limit db (xs ++ ys) ≡ after_order limit (after_order limit db xs) ys
after_order-append limit db [] ys = refl
after_order-append limit db (x ∷ xs) ys = after_order-append limit (after_request limit db x.request) xs ys

pub along_before : (limit : ℕ) (db : Database) (xs ys : List Done) → RepliesAlong limit db (xs ++ ys) → RepliesAlong limit db xs
along_before limit db [] ys along = tt
along_before limit db (x ∷ xs) ys along = (along.0, along.1, along_before limit (after_request limit db x.request) xs ys along.2)

pub along_behind : (limit : ℕ) (db : Database) (xs ys : List Done) → RepliesAlong limit db (xs ++ ys) → RepliesAlong limit (after_order limit db xs) ys
along_behind limit db [] ys along = along
along_behind limit db (x ∷ xs) ys along = along_behind limit (after_request limit db x.request) xs ys along.2

pub along_both : (limit : ℕ) (db : Database) (xs ys : List Done) → RepliesAlong limit db xs → RepliesAlong limit (after_order limit db xs) ys → RepliesAlong limit db (xs ++ ys)
along_both limit db [] ys before behind = behind
along_both limit db (x ∷ xs) ys before behind = (before.0, before.1, along_both limit (after_request limit db x.request) xs ys before.2 behind)

-- a request that didn't write left the database
pub left_unwritten : (limit : ℕ) (db : Database) (d : Done) → d.reply ≡ reply_to limit db d.request → d.wrote ≡ is_changed d.reply → d.wrote ≡ false → after_request limit db d.request ≡ db
left_unwritten limit db d reply wrote unwritten = after_request-unchanged limit db d.request (ap is_changed (sym reply) ∙ sym wrote ∙ unwritten)

-- requests that didn't write left the database
pub order_unwritten : (limit : ℕ) (db : Database) (xs : List Done) → RepliesAlong limit db xs → All (λ d. d.wrote ≡ false) xs → after_order limit db xs ≡ db
order_unwritten limit db [] along unwritten = refl
order_unwritten limit db (x ∷ xs) along unwritten =
    order_unwritten limit (after_request limit db x.request) xs along.2 (All-tail (λ d. d.wrote ≡ false) x xs unwritten)
    ∙ left_unwritten limit db x along.0 along.1 (All-head (λ d. d.wrote ≡ false) x xs unwritten)
