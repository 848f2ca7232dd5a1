use Rattle.std.proofs.Common.{List, [], ◌∷◌, refl, sym, subst, rules}
use Rattle.dude_base.specs.declared.write.Write.{Write}
use Rattle.dude_base.specs.Writes.{put_write}
use Rattle.word_space.proofs.Meets.{shown_write}
use Rattle.stm_transactions.specs.Pairs.{pairs_of}
use Rattle.stm_transactions.specs.Pins.{pin_list}
use Rattle.stm_transactions.specs.Running.{IsRunning}
use Rattle.stm_transactions.specs.Transactions.{tx_sight}
use Rattle.stm_transactions.proofs.Writing.{room, running_write}
use Rattle.stm_transactions.proofs.words.TxOverBoxDescriptorWords.write.Goals as goal

pub own_lock-requires-clause-room : goal.own_lock-requires-clause-room
own_lock-requires-clause-room g c =
    let t = c.args.self.now in
    rw (c.deref_mut-own.ensures.value, c.lock_for-lock.ensures) (room t.stm.now.events.setup t.numbers.thread t.snapshot t.lists.value.reads.items t.lists.value.writes t.lists.value.held (pin_list t.pinned) t.seat.me.0.view t.running c.args.at (rw c.deref_mut-own.ensures.value at c.if-is_wide.ensures))

pub invariant_of-self-2-clause-running : goal.invariant_of-self-2-clause-running
invariant_of-self-2-clause-running g c =
    let t = c.args.self.now in
    rw c.deref_mut-own.ensures.value (
    subst (λ (ws : List Write). IsRunning t.stm.now.events.setup t.numbers.thread c.own_lock.new.snapshot t.lists.value.reads.items ws (pairs_of c.own_lock.new.held) (pin_list t.pinned) c.own_lock.new.seat.me.0.view) {x = put_write t.lists.value.writes (record { at = c.args.at; value = c.args.value })} (sym (rw c.deref_mut-own.ensures.value at c.note.ensures))
    (running_write t.stm.now.events.setup t.numbers.thread t.snapshot t.lists.value.reads.items t.lists.value.writes t.lists.value.held (pin_list t.pinned) t.seat.me.0.view t.running c.args.at c.args.value c.own_lock.new.held c.own_lock.new.snapshot c.own_lock.new.seat.me.0.view c.requires.inside (rw c.deref_mut-own.ensures.value at c.if-is_wide.ensures) c.in_default.ensures.ok.0 (rw (c.deref_mut-own.ensures.value, c.lock_for-lock.ensures) at c.in_default.ensures.ok.1))
    )

pub returns-clause-shown : goal.returns-clause-shown
returns-clause-shown g c =
    let s = tx_sight c.args.self.now in
    shown_write s (record s { writes = c.note.new.writes }) c.args.at c.args.value (search rules)

pub invariant_of-self-2-clause-reads_inside : goal.invariant_of-self-2-clause-reads_inside
invariant_of-self-2-clause-reads_inside g c = rw c.deref_mut-own.ensures.value c.args.self.now.reads_inside

pub returns-clause-uses : goal.returns-clause-uses
returns-clause-uses g c =
    let own = c.deref_mut-own.ensures.value in
    record {
      count = refl;
      turns = search rules;
      last = search rules;
      most = record {
        noted = [];
        few_reads = search rules;
        reads = rw own (search rules);
        made = record { at = c.args.at; value = c.args.value } ∷ [];
        few_writes = search rules;
        writes = rw own at c.note.ensures;
      };
    }
