-- One transaction for a request, from its begin to its end.
use Rattle.std.proofs.Common.{◌≡◌, ◌≢◌, ℕ, ◌*◌, ◌/◌, ◌<◌, ◌≤◌, Bool, true, false, List, [], ◌∷◌, ◌++◌, length, refl, sym, ap, ◌∙◌, subst, arith}
use Rattle.std.specs.Prelude.{Option, Some, Ok, Err, ◌↔◌}
use Rattle.std.specs.List.{All}
use Rattle.std.proofs.lemmas.Bool.{true≢false}
use Rattle.dude_base.specs.declared.limits.TheConstants.{PAGE}
use Rattle.dude_base.specs.declared.sizes.Sizes.{Sizes}
use Rattle.dude_base.specs.declared.write.Write.{Write}
use Rattle.word_space.specs.declared.stop.Stop.{Stop}
use Rattle.word_space.specs.declared.stop.Stop.TheVariants as stop
use Rattle.tatp_model.specs.declared.request.Request.{Request}
use Rattle.tatp_model.specs.declared.reply.Reply.{Reply}
use Rattle.tatp_model.specs.declared.done.Done.{Done}
use Rattle.tatp_model.specs.OneThread.{is_sync}
use Rattle.tatp_core.specs.Serves.{Answers}
use Rattle.core_events.specs.Setups.{Setup, page_of}
use Rattle.core_events.specs.Views.{View, Entry}
use Rattle.core_table.specs.Layout.{TableSight}
use Rattle.stm_transactions.proofs.Pairs.{among}
use Rattle.stm_transactions.specs.declared.lost.Lost.{Lost}
use Rattle.stm_transactions.specs.declared.lost.Lost.TheVariants as lost
use Rattle.stm_transactions.specs.CommitEnds.{IsLost, HasMissed, has_writes}
use Rattle.stm_transactions.specs.declared.pass_numbers.PassNumbers.{PassNumbers}
use Rattle.stm_transactions.specs.Numbers.{with_refusals}
use Rattle.stm_transactions.specs.Passes.{PassSight, IsResting, pass_view}
use Rattle.stm_transactions.specs.declared.tx.TxOver.{TxOver}
use Rattle.stm_transactions.specs.declared.transaction_lists.TransactionLists.{Ghosts}
use Rattle.stm_transactions.specs.Counts.{after_commit}
use Rattle.stm_transactions.specs.Stops.{counts}
use Rattle.stm_transactions.specs.Transactions.{tx_sight, tx_table, tx_view, tx_numbers, tx_reads, tx_writes, TurnsInto, HasBegun}
use Rattle.stm_transactions.specs.Ends.{HasAborted, HasCommitted, HasLostCommit, entry_of}
use Rattle.legal_entries.proofs.Serving.{served_entry}
use Rattle.request_attempts.specs.Served.{HasServed}
use Rattle.request_attempts.specs.AfterOnce.{HasStopped, WasLost, CountsEntry}

-- there are writes exactly where this says so
says_writes : (ws : List Write) → has_writes ws ≡ true ↔ ws ≢ []
says_writes [] = (λ e. absurd (true≢false (sym e)), λ some. absurd (some refl))
says_writes (w ∷ ws) = (λ e. λ none. cc, λ some. refl)

some_writes : (ws : List Write) → has_writes ws ≡ true → 0 < length ws
some_writes [] e = absurd (true≢false (sym e))
some_writes (w ∷ ws) e = omega arith

wrote_some : (ws : List Write) → 0 < length ws → has_writes ws ≡ true
wrote_some [] lt = absurd (omega arith)
wrote_some (w ∷ ws) lt = refl

-- the page of a written word exists
missed_inside : (z : Setup) (ws : List Write) (page : ℕ) (v w : View) → All (λ x. x.at < z.pages * PAGE) ws → HasMissed z ws (stop.Out page) v w → page < z.pages
missed_inside z ws page v w inside h =
    let i = h.why.1.0 in
    let d : Write = record { at = i; value = h.why.1.1 } in
    let m = among ws i h.why.1.1 h.why.1.2 in
    let there : i < z.pages * PAGE = subst (λ (j : ℕ). j < z.pages * PAGE) (m.2 d) (inside m.0 d m.1) in
    let same : page_of i ≡ h.why.0 = h.why.1.3 in
    let its : page ≡ h.why.0 = h.why.2.0 in
    let div : i / PAGE < z.pages = omega arith in
    subst (λ (p : ℕ). p < z.pages) (same ∙ sym its) div

lost_inside : (z : Setup) (thread snapshot : ℕ) (reads : List (ℕ × ℕ)) (ws : List Write) (l : Lost) (v w : View) → All (λ x. x.at < z.pages * PAGE) ws → IsLost z thread snapshot reads ws l v w → (page : ℕ) → l ≡ lost.Out page → page < z.pages
lost_inside z thread snapshot reads ws l v w inside h page is = missed_inside z ws page v w inside (subst (λ (x : Lost). IsLost z thread snapshot reads ws x v w) is h)

module _ {S X K P L : Type 0} {g : Ghosts L} (e : TableSight K) (p r : PassSight X) (t0 t : TxOver S X K P L g) (begun : HasBegun e p t0) (turns : TurnsInto t0 t) where
  pub events : tx_table t ≡ e
  events = ap (λ s. s.events) turns.stm ∙ begun.table

  pub numbers : tx_numbers t ≡ p.numbers
  numbers = turns.numbers ∙ begun.numbers

  entries : (tx_view t).entries ≡ (pass_view p).entries
  entries = turns.entries ∙ ap (λ (v : View). v.entries) begun.view

  part : (tx_view t).part ≡ (pass_view p).part
  part = turns.part ∙ ap (λ (v : View). v.part) begun.view

  pub stopped_as : (x : Stop) → t.stopped ≡ Some x → x ≢ stop.Wide → HasAborted t r → HasStopped e x p r
  stopped_as x is narrow a = record {
    rests = subst (λ (y : TableSight K). IsResting y r) events a.rests;
    part = a.ended.part ∙ part;
    entries = a.ended.entries ∙ entries;
    refusals = t.refused;
    counts_it = subst (λ (o : Option Stop). counts o ≤ t.refused) is t.stops.counted;
    numbers = a.numbers ∙ ap (λ (f : PassNumbers). with_refusals t.refused f) numbers;
    narrow = narrow;
    inside = λ page out. subst (λ (y : TableSight K). page < y.setup.pages) events (t.stops.inside page (is ∙ ap (λ (y : Stop). Some y) out));
  }

  pub lost_as : (l : Lost) → HasLostCommit t r l → WasLost e l p r
  lost_as l u = record {
    rests = subst (λ (y : TableSight K). IsResting y r) events u.rests;
    part = u.part ∙ part;
    entries = u.entries ∙ entries;
    refusals = t.refused;
    numbers = u.numbers ∙ (ap (λ (b : Bool). with_refusals t.refused (after_commit b (Err l) (tx_table t).setup.boxes (tx_numbers t))) (wrote_some (tx_writes t) u.some)
        ∙ (ap (λ (y : TableSight K). with_refusals t.refused (after_commit true (Err l) y.setup.boxes (tx_numbers t))) events ∙ ap (λ (f : PassNumbers). with_refusals t.refused (after_commit true (Err l) e.setup.boxes f)) numbers));
    inside = λ page is. subst (λ (y : TableSight K). page < y.setup.pages) events (lost_inside (tx_table t).setup t.numbers.thread t.snapshot (tx_reads t) (tx_writes t) l (tx_view t) (pass_view r) t.running.inside u.why page is);
  }

  pub served_as : (s : Sizes) (file index : ℕ) (q : Request) (reply : Reply) (d : Done) → is_sync q ≡ false → Answers s q reply (tx_sight t).reads (tx_sight t).writes
      → HasCommitted file index q reply t r d → HasServed e s file index q p r d × CountsEntry e d.number p r
  served_as s file index q reply d no_sync answers h =
      let d0 : Done = record { file = file; index = index; number = d.number; wrote = has_writes (tx_writes t); request = q; reply = reply } in
      let same : d ≡ d0 = h.done in
      let last : t.numbers.last ≡ p.numbers.last = ap (λ (f : PassNumbers). f.last) numbers in (
        record {
          rests = subst (λ (y : TableSight K). IsResting y r) events h.rests;
          at = (ap (λ (x : Done). x.file) same, ap (λ (x : Done). x.index) same, ap (λ (x : Done). x.request) same);
          entry = entry_of d0 (tx_reads t) (tx_writes t);
          part = h.part ∙ part;
          entries = h.entries ∙ (ap (λ (x : Done). (tx_view t).entries ++ entry_of x (tx_reads t) (tx_writes t) ∷ []) same ∙ ap (λ (l : List Entry). l ++ entry_of d0 (tx_reads t) (tx_writes t) ∷ []) entries);
          done = sym same;
          served = served_entry s (tx_sight t) (entry_of d0 (tx_reads t) (tx_writes t)) no_sync (record { reads = refl; writes = refl; wrote = says_writes (tx_writes t) }) answers;
          last = (let l = h.last in omega arith);
          over = λ wrote. (let o = h.over (some_writes (tx_writes t) (sym (ap (λ (x : Done). x.wrote) same) ∙ wrote)) in omega arith);
        },
        (t.refused, has_writes (tx_writes t), h.numbers ∙ (ap (λ (y : TableSight K). with_refusals t.refused (after_commit (has_writes (tx_writes t)) (Ok d.number) y.setup.boxes (tx_numbers t))) events ∙ ap (λ (f : PassNumbers). with_refusals t.refused (after_commit (has_writes (tx_writes t)) (Ok d.number) e.setup.boxes f)) numbers)),
      )
