-- What serving a request leaves, by how it ended.
use Rattle.std.proofs.Common.{◌≡◌, ◌≢◌, ℕ, ◌*◌, ◌<◌, ◌≤◌, All, List, [], length, Some, None, Result, Ok, Err, IfOk, refl, sym, ap, ◌∙◌, subst, arith, lit≤, zero-le}
use Rattle.std.specs.Result.{IsErrAnd}
use Rattle.dude_base.specs.declared.sizes.Sizes.{Sizes}
use Rattle.dude_base.specs.declared.write.Write.{Write}
use Rattle.dude_base.specs.Writes.{overwritten}
use Rattle.word_space.specs.declared.stop.Stop.{Stop}
use Rattle.dude_base.specs.declared.limits.TheConstants.{PAGE}
use Rattle.word_space.specs.Sights.{WordsSight, IsBelow, IsWellFormed, shown}
use Rattle.word_space.specs.Steps.{UsesWords, WordsUsed, Wrote, stop_of}
use Rattle.word_space.proofs.Runs.{few_pending, is_err, unwritten, used_more, wrote_some, wrote_zero}
use Rattle.tatp_model.specs.declared.reply.Reply.{Reply}
use Rattle.tatp_model.specs.declared.reply.Reply.TheVariants.{Changed}
use Rattle.tatp_model.specs.declared.request.Request.{Request}
use Rattle.tatp_model.specs.declared.request.Request.TheVariants.{UpdateSubscriber, UpdateLocation, InsertCall, DeleteCall, GetSubscriber, GetDestination, GetAccess}
use Rattle.tatp_model.specs.Database.{Database}
use Rattle.tatp_model.specs.Request.{IsInRange}
use Rattle.tatp_model.specs.Transaction.{after_request}
use Rattle.tatp_layout.specs.StandsFor.{StandsFor}
use Rattle.tatp_layout.proofs.Indexes.{by_index_both, by_index_least, by_index_most}
use Rattle.tatp_layout.proofs.Seen.{stands_bare}
use Rattle.tatp_read.specs.Lookups.{AnswersRequest, CanServe, reads_of}
use Rattle.tatp_core.specs.Reads.{IsRead}
use Rattle.tatp_core.specs.Serves.{Answers, Serves, ServesRequest, WritesIfChanged, max_reads, max_writes, most_reads, most_writes}

-- no request writes more words than the most of any
most_writes_few : (s : Sizes) (request : Request) → most_writes s request ≤ max_writes s
most_writes_few s (UpdateSubscriber s_id bit_1 sf_type data_a) = by_index_least s.index 7 20 2 (lit≤ tt) (lit≤ tt)
most_writes_few s (UpdateLocation sub_nbr vlr) = by_index_both s.index 1 7 7 20 (lit≤ tt) (lit≤ tt)
most_writes_few s (InsertCall sub_nbr sf_type start_time end_time numberx) = by_index_least s.index 7 20 7 (lit≤ tt) (lit≤ tt)
most_writes_few s (DeleteCall sub_nbr sf_type start_time) = by_index_least s.index 7 20 4 (lit≤ tt) (lit≤ tt)
most_writes_few s _ = zero-le

-- and no more than this, with an index or without one
pub max_writes_few : (s : Sizes) → max_writes s ≤ 20
max_writes_few s = by_index_most s.index 7 20 20 (lit≤ tt) (lit≤ tt)

-- and none reads more than this
most_reads_few : (s : Sizes) (request : Request) → most_reads s request ≤ max_reads s
most_reads_few s (UpdateSubscriber s_id bit_1 sf_type data_a) = omega arith
most_reads_few s (UpdateLocation sub_nbr vlr) = omega arith
most_reads_few s (InsertCall sub_nbr sf_type start_time end_time numberx) = omega arith
most_reads_few s (DeleteCall sub_nbr sf_type start_time) = omega arith
most_reads_few s (GetSubscriber s_id) = omega arith
most_reads_few s (GetDestination s_id sf_type start_time end_time) = omega arith
most_reads_few s (GetAccess s_id ai_type) = omega arith
most_reads_few s _ = omega arith

-- words were written
pub wrote_more : {n : ℕ} {s t : WordsSight} → Wrote n s t → 0 < n → t.writes ≢ []
wrote_more {t = t} wrote some none = omega (arith, wrote_some wrote some, ap length none)

-- none were
wrote_nothing : {reply : Reply} {writes : List Write} → writes ≡ [] → reply ≢ Changed → WritesIfChanged reply writes
wrote_nothing none other = ((λ same. absurd (other same)), λ some. absurd (some none))

-- what is served whatever array may lie below, where no word was written before
abbrev pub ServesSeen : {S : Type 0} → (S → WordsSight) → Sizes → Request → Reply → S → S → Type 0
ServesSeen sight s request reply x y = IsInRange request → (array : List ℕ) → IsBelow (sight y) array → (db : Database) → StandsFor s (shown (sight x) array) db → Serves s db request reply (shown (sight y) array)

module _ {S : Type 0} {sight : S → WordsSight} {turns_into : S → S → Type 0} (s : Sizes) where
  -- how the words were used bounds what is left
  served : {taken : Request} {result : Result Reply Stop} {x y : S} → (sight x).writes ≡ [] → UsesWords sight turns_into (most_reads s taken) (most_writes s taken) result x y
      → IfOk result (λ reply. Answers s taken reply (sight y).reads (sight y).writes) → ServesRequest sight turns_into s taken result x y
  served {taken = taken} {result = result} bare used answers = record {
    uses = used;
    most = (used_more {stop = stop_of result} used (most_reads_few s taken) (most_writes_few s taken)).most;
    few = omega (arith, few_pending {stop = stop_of result} used bare, most_writes_few s taken);
    answers = answers;
  }

  -- a reply to which the words bear witness
  module _ (well : (z : S) → IsWellFormed (sight z)) where
    replied : {taken : Request} {reply : Reply} {x y : S} → (sight x).count ≡ s.pages * PAGE → (sight x).writes ≡ [] → WordsUsed sight turns_into (most_reads s taken) (most_writes s taken) None x y → WritesIfChanged reply (sight y).writes
        → ((array : List ℕ) → IsBelow (sight y) array → (db : Database) → StandsFor s array db → Serves s db taken reply (shown (sight y) array)) → ServesRequest sight turns_into s taken (Ok reply) x y
    replied {y = y} size bare used wrote serves =
        let count : (sight y).count ≡ s.pages * PAGE = used.count ∙ size in
        served {result = Ok _} bare used (record {
          few = few_pending {stop = None} used bare;
          wrote = wrote;
          reads_inside = subst (λ n. All (λ r. r.0 < n) (sight y).reads) count (well y).reads_inside;
          writes_inside = subst (λ n. All (λ w. w.at < n) (sight y).writes) count (well y).inside;
          serves = λ array agrees db stands. serves array (record { size = stands.size ∙ sym count; agrees = agrees }) db stands;
        })

  -- From here on the request was taken apart.
  module _ {request taken : Request} (is : request ≡ taken) where
    -- a Stop that `?` hands on
    pub serves_stopped : {e : Stop} {k l : ℕ} {x y : S} (r : Result Reply Stop) → IsErrAnd r (λ f. f ≡ e) → CanServe s request (sight x) → WordsUsed sight turns_into k l (Some e) x y → k ≤ most_reads s taken → l ≤ most_writes s taken
        → ServesRequest sight turns_into s request r x y
    serves_stopped {e} {x = x} {y = y} r handed can used reads writes =
        subst (λ q. ServesRequest sight turns_into s q r x y) (sym is)
        (subst (λ o. ServesRequest sight turns_into s taken o x y) (sym (is_err r handed)) (served {result = Err e} can.no_writes (used_more {stop = Some e} used reads writes) tt))

    module _ (well : (z : S) → IsWellFormed (sight z)) where
      -- a reply that isn't Changed, with no word written
      pub serves_unchanged : {k l : ℕ} {x y : S} (reply : Reply) → CanServe s request (sight x) → WordsUsed sight turns_into k l None x y → k ≤ most_reads s taken → l ≤ most_writes s taken
          → Wrote 0 (sight x) (sight y) → reply ≢ Changed → ServesSeen sight s taken reply x y → ServesRequest sight turns_into s request (Ok reply) x y
      serves_unchanged {x = x} {y = y} reply can used reads writes wrote other serves =
          subst (λ q. ServesRequest sight turns_into s q (Ok reply) x y) (sym is) (replied well can.size can.no_writes (used_more {stop = None} used reads writes) (wrote_nothing (wrote_zero wrote ∙ can.no_writes) other)
          (λ array below db stands. serves (subst IsInRange is can.in_range) array below db (stands_bare (sight x) can.no_writes stands)))

      -- Changed, with some words written
      pub serves_changed : {k l : ℕ} {x y : S} → CanServe s request (sight x) → WordsUsed sight turns_into k l None x y → k ≤ most_reads s taken → l ≤ most_writes s taken
          → (sight y).writes ≢ [] → ServesSeen sight s taken Changed x y → ServesRequest sight turns_into s request (Ok Changed) x y
      serves_changed {x = x} {y = y} can used reads writes wrote serves =
          subst (λ q. ServesRequest sight turns_into s q (Ok Changed) x y) (sym is) (replied well can.size can.no_writes (used_more {stop = None} used reads writes) ((λ same. wrote), λ some. refl)
          (λ array below db stands. serves (subst IsInRange is can.in_range) array below db (stands_bare (sight x) can.no_writes stands)))

-- ---- a request that only reads

after_read : (limit : ℕ) (db : Database) (q : Request) → IsRead q → after_request limit db q ≡ db
after_read limit db (GetSubscriber s_id) read = refl
after_read limit db (GetDestination s_id sf_type start_time end_time) read = refl
after_read limit db (GetAccess s_id ai_type) read = refl
after_read limit db _ read = absurd read

reads_within : (s : Sizes) (q : Request) → IsRead q → reads_of s q ≤ most_reads s q
reads_within s (GetSubscriber s_id) read = omega arith
reads_within s (GetDestination s_id sf_type start_time end_time) read = omega arith
reads_within s (GetAccess s_id ai_type) read = omega arith
reads_within s _ read = absurd read

module _ {S : Type 0} {sight : S → WordsSight} {turns_into : S → S → Type 0} (s : Sizes) (q : Request) {x y : S} (well : (z : S) → IsWellFormed (sight z)) where
  -- it changes nothing, and what it was answered, it serves
  pub serves_read : (result : Result Reply Stop) → IsRead q → (sight x).count ≡ s.pages * PAGE → (sight x).writes ≡ [] → AnswersRequest sight turns_into s q result x y
      → ServesRequest sight turns_into s q result x y
  serves_read (Ok reply) read size bare answers =
      let none : (sight y).writes ≡ [] = unwritten {stop = None} answers.uses ∙ bare in
      replied s well size bare (used_more {stop = None} answers.uses (reads_within s q read) zero-le) (wrote_nothing none answers.unchanged)
      (λ array below db stands.
      let same : shown (sight y) array ≡ array = ap (λ ws. overwritten ws array) none in
      record {
        replies = answers.reply array below db stands;
        stands = subst (λ words. StandsFor s words (after_request s.calls db q)) (sym same) (subst (λ d. StandsFor s array d) (sym (after_read s.calls db q read)) stands);
      })
  serves_read (Err stop) read size bare answers = served s {result = Err stop} bare (used_more {stop = Some stop} answers.uses (reads_within s q read) zero-le) tt
