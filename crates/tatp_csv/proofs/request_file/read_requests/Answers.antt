use Rattle.std.proofs.Common.{◌≡◌, ◌∙◌, ◌+◌, ◌∷◌, ◌++◌, [], sym, rules, arith}
use Rattle.tatp_csv.specs.Rows.{rows_left}
use Rattle.tatp_csv.proofs.Requests.{after-bad, after-end, after-good, after-many}
use Rattle.tatp_csv.proofs.Ranges.{requests_of-ranges}
use Rattle.tatp_csv.proofs.request_file.read_requests.Goals as goal

pub returns-then-not-branch-clause-read : goal.returns-then-not-branch-clause-read
returns-then-not-branch-clause-read c =
    let left = rw c.if-not-branch.true at c.in_ok-next_row.ensures.takes in
    c.loop-before.invariant.left ∙ rw left (after-end c.loop-before.requests.items (c.loop-before.before + 1))

pub returns-in-Err-clause-refused : goal.returns-in-Err-clause-refused
returns-in-Err-clause-refused c =
    let left = rw c.if-not-branch.false at c.in_ok-next_row.ensures.takes in
    c.loop-before.invariant.left
    ∙ rw left (after-bad c.loop-before.requests.items (c.loop-before.before + 1) _ (rows_left c.next_row.new.reader) c.in-Err.field (omega arith) (sym c.in-Err.ensures))

pub loop-before-preserved : goal.loop-before-preserved
loop-before-preserved c =
    let left = rw c.if-not-branch.false at c.in_ok-next_row.ensures.takes in
    let pushed : c.push.new.self.items ≡ c.loop-before.requests.items ++ c.in-Ok.request ∷ [] = search rules in
    record {
      reads = search rules;
      left = c.loop-before.invariant.left
          ∙ rw (left, pushed) (after-good c.loop-before.requests.items (c.loop-before.before + 1) _ (rows_left c.next_row.new.reader) c.in-Ok.request (omega arith) (sym c.in-Ok.ensures));
    }

pub returns-then-branch-clause-refused : goal.returns-then-branch-clause-refused
returns-then-branch-clause-refused c =
    let all : c.loop-before.before ≡ 100000 = omega arith in
    let left = rw c.if-branch.true at c.in_ok-next_row-2.ensures.takes in
    c.loop-before.invariant.left ∙ rw (all, left) (after-many c.loop-before.requests.items _ (rows_left c.next_row-2.new.reader))

pub returns-clause-read : goal.returns-clause-read
returns-clause-read c =
    let left = rw c.if-branch.false at c.in_ok-next_row-2.ensures.takes in
    c.loop-before.invariant.left ∙ rw left (after-end c.loop-before.requests.items (c.loop-before.before + 1))

pub returns-then-not-branch-clause-ranges : goal.returns-then-not-branch-clause-ranges
returns-then-not-branch-clause-ranges c =
    requests_of-ranges c.args.bytes.now c.loop-before.requests.items (returns-then-not-branch-clause-read c)

pub returns-clause-ranges : goal.returns-clause-ranges
returns-clause-ranges c = requests_of-ranges c.args.bytes.now c.loop-before.requests.items (returns-clause-read c)
