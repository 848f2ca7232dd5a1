-- What was sent of a list that grows.
use Rattle.std.proofs.Common.{List, ◌++◌, sym, ◌∙◌, arith, length-append}
use Rattle.std.proofs.lemmas.List.{take-append-le}
use Rattle.tatp_model.specs.declared.done.Done.{Done}
use Rattle.dude_stream.specs.declared.outbox.Outbox.{Outbox}
use Rattle.dude_stream.specs.Outboxes.{HasSent}

-- just the first so many are sent still
pub sent_more : (done more : List Done) (o : Outbox) → HasSent done o → HasSent (done ++ more) o
sent_more done more o h = record {
  few = omega (arith, h.few, length-append done more);
  first = h.first ∙ sym (take-append-le o.sent done more h.few);
}
