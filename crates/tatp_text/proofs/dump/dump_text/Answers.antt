use Rattle.std.proofs.Common.{◌≡◌, ◌∙◌, [], rules}
use Rattle.tatp_text.specs.Writing.{written}
use Rattle.tatp_text.proofs.DumpText.{five_written}
use Rattle.tatp_text.proofs.dump.dump_text.Goals as goal

pub returns-in-Ok : goal.returns-in-Ok
returns-in-Ok c =
    let start : written c.from_writer-writer.result ≡ [] = search rules in
    let subscribers = rw c.deref.ensures.value at c.in_ok-write_rows.ensures.text in
    let access = rw c.deref-2.ensures.value at c.in_ok-write_rows-2.ensures.text in
    let facilities = rw c.deref-3.ensures.value at c.in_ok-write_rows-3.ensures.text in
    let calls = rw c.deref-4.ensures.value at c.in_ok-write_rows-4.ensures.text in
    five_written _ _ _ _ _ _ _ _ _ _ _ start subscribers access facilities calls (c.in-Ok.ensures.ok ∙ c.in_ok-write_rows-5.ensures.text)
