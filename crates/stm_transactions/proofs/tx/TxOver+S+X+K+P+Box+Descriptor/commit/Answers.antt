use Rattle.std.proofs.Common.{◌≡◌, ◌<◌, ◌∷◌, ◌++◌, [], length, Bool, ℕ, Result, Ok, Err, refl, sym, ap, ◌∙◌, subst, arith}
use Rattle.std.specs.Prelude.{IfOk, IfErr}
use Rattle.tatp_model.specs.declared.done.Done.{Done}
use Rattle.core_table.specs.Abouts.{about}
use Rattle.stm_transactions.specs.declared.lost.Lost.{Lost}
use Rattle.stm_transactions.specs.CommitEnds.{HasEntered, IsLost, has_writes}
use Rattle.stm_transactions.specs.declared.pass_numbers.PassNumbers.{PassNumbers}
use Rattle.stm_transactions.specs.Counts.{after_commit}
use Rattle.stm_transactions.specs.Ends.{HasCommitted, HasLostCommit, entry_of}
use Rattle.stm_transactions.proofs.PassEnds.{given_as, if_ok, if_err, rests_with, describes_entered, describes_lost, lost_leaves, greatest_upto, greatest_under}
use Rattle.stm_transactions.proofs.tx.TxOver+S+X+K+P+Box+Descriptor.commit.Goals as goal

pub returns-clause-ok : goal.returns-clause-ok
returns-clause-ok g c = if_ok c.done_of-done.result _ _ _ c.done_of-done.ensures (λ d e.
    let t = c.args.self in let z = t.stm.now.events.setup in let v = t.seat.me.0.view in let s = c.commit_all-answer.new.seat in let w = s.me.0.view in let reads = t.lists.value.reads.items in let ws = t.lists.value.writes in
    let a = about c.args.file c.args.index c.args.q.now c.args.reply.now in
    let ok = subst (λ (r : Result ℕ Lost). IfOk r (λ n. HasEntered z n a c.as_slice.result.now ws v w)) e.0 (rw c.deref_mut-own.ensures.value at c.commit_all-answer.ensures.ok) in
    let h : HasEntered z d.number a reads ws v w = rw (c.as_slice.ensures.value, c.deref_mut-own.ensures.value) at ok in
    let wrote : c.has_any-wrote.result ≡ has_writes ws = (rw c.deref_mut-own.ensures.value at c.has_any-wrote.ensures) in
    let n : PassNumbers = after_commit (has_writes ws) (Ok d.number) z.boxes t.numbers in
    let pass = given_as s c.put_seat.new.self t.refused ws t.numbers c.count_commit.result c.refuse-numbers.result c.has_any-wrote.result c.commit_all-answer.result (Ok d.number) c.boxes.result z.boxes c.put_seat.ensures c.refuse-numbers.ensures c.count_commit.ensures wrote e.0 c.boxes.ensures in
    let done : d ≡ record { file = c.args.file; index = c.args.index; number = d.number; wrote = has_writes ws; request = c.args.q.now; reply = c.args.reply.now } =
    e.1 ∙ ap (λ (b : Bool). let x : Done = record { file = c.args.file; index = c.args.index; number = d.number; wrote = b; request = c.args.q.now; reply = c.args.reply.now } in x) wrote in
    subst (λ p. HasCommitted c.args.file c.args.index c.args.q.now c.args.reply.now t p d) (sym pass) (record {
      rests = rests_with t.stm.now.events s t.refused n v c.commit_all-answer.ensures.stays.belongs h.idle h.turn t.running.no_turn (describes_entered z t.numbers v t.describes d.number a reads ws w h);
      done = done;
      entries = h.entries ∙ ap (λ (x : Done). v.entries ++ entry_of x reads ws ∷ []) (sym done);
      drawn = h.drawn;
      part = h.part;
      turn = h.turn;
      last = (let u = greatest_upto z.first v.entries d.number h.from h.upto in let l = t.describes.last in omega arith);
      over = λ some. (let u = greatest_under z.first v.entries d.number (h.over some).0 (h.over some).1 in let l = t.describes.last in omega arith);
      reader = λ none. h.reader none ∙ t.running.snap;
      numbers = refl;
    }))

pub returns-clause-err : goal.returns-clause-err
returns-clause-err g c = if_err c.done_of-done.result _ _ _ c.done_of-done.ensures (λ l e.
    let t = c.args.self in let z = t.stm.now.events.setup in let v = t.seat.me.0.view in let s = c.commit_all-answer.new.seat in let w = s.me.0.view in let reads = t.lists.value.reads.items in let ws = t.lists.value.writes in
    let err = subst (λ (r : Result ℕ Lost). IfErr r (λ l. IsLost z t.numbers.thread t.snapshot c.as_slice.result.now ws l v w)) e (rw c.deref_mut-own.ensures.value at c.commit_all-answer.ensures.err) in
    let h : IsLost z t.numbers.thread t.snapshot reads ws l v w = rw (c.as_slice.ensures.value, c.deref_mut-own.ensures.value) at err in
    let leaves = lost_leaves z t.numbers v t.describes t.snapshot reads ws l w h in
    let n : PassNumbers = after_commit (has_writes ws) (Err l) z.boxes t.numbers in
    let pass = given_as s c.put_seat.new.self t.refused ws t.numbers c.count_commit.result c.refuse-numbers.result c.has_any-wrote.result c.commit_all-answer.result (Err l) c.boxes.result z.boxes c.put_seat.ensures c.refuse-numbers.ensures c.count_commit.ensures (rw c.deref_mut-own.ensures.value at c.has_any-wrote.ensures) e c.boxes.ensures in
    let some = subst (λ (r : Result ℕ Lost). IfErr r (λ _. 0 < length ws)) e (rw c.deref_mut-own.ensures.value at c.commit_all-answer.ensures.wrote) in
    subst (λ p. HasLostCommit t p l) (sym pass) (record {
      rests = rests_with t.stm.now.events s t.refused n v c.commit_all-answer.ensures.stays.belongs leaves.idle leaves.turn t.running.no_turn (describes_lost z t.numbers v t.describes t.snapshot reads ws (has_writes ws) l w h);
      some = some;
      entries = leaves.entries;
      part = leaves.part;
      turn = leaves.turn;
      why = h;
      numbers = refl;
    }))
