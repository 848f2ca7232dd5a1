use Rattle.std.proofs.Common.{◌≡◌, ◌≤◌, false, is_ok, ◌∙◌, arith, rules}
use Rattle.dude_base.specs.Image.{image_words}
use Rattle.redo_record.proofs.RecordPairs.{append_made, append_stops, handed, hands_lines, hands_places}
use Rattle.log_ring.proofs.append.append_record.Goals as goal

pub settle_group-requires-clause-places : goal.settle_group-requires-clause-places
settle_group-requires-clause-places g c =
    (hands_places (handed c.args.place.now c.args.ring c.args.head c.args.b.now c.requires.ring c.requires.head (c.body.ensures ∙ c.set.ensures.body) (c.body_lines.ensures ∙ c.set.ensures.lines) c.set.ensures.tag c.set.ensures.tag_line) c.requires.room).0

pub settle_group-requires-clause-whole : goal.settle_group-requires-clause-whole
settle_group-requires-clause-whole g c =
    (hands_lines (handed c.args.place.now c.args.ring c.args.head c.args.b.now c.requires.ring c.requires.head (c.body.ensures ∙ c.set.ensures.body) (c.body_lines.ensures ∙ c.set.ensures.lines) c.set.ensures.tag c.set.ensures.tag_line) c.requires.room).0

pub settle_group-requires-2-clause-places : goal.settle_group-requires-2-clause-places
settle_group-requires-2-clause-places g c =
    let long : image_words c.args.place.now ≤ (g.M.Medium.sight c.settle_group.new.m).len = omega (arith, c.in_ok-settle_group.ensures.len) in
    (hands_places (handed c.args.place.now c.args.ring c.args.head c.args.b.now c.requires.ring c.requires.head (c.body.ensures ∙ c.set.ensures.body) (c.body_lines.ensures ∙ c.set.ensures.lines) (c.tag.ensures ∙ c.set.ensures.tag) (c.tag_line.ensures ∙ c.set.ensures.tag_line)) long).1

pub settle_group-requires-2-clause-whole : goal.settle_group-requires-2-clause-whole
settle_group-requires-2-clause-whole g c =
    let long : image_words c.args.place.now ≤ (g.M.Medium.sight c.settle_group.new.m).len = omega (arith, c.in_ok-settle_group.ensures.len) in
    (hands_lines (handed c.args.place.now c.args.ring c.args.head c.args.b.now c.requires.ring c.requires.head (c.body.ensures ∙ c.set.ensures.body) (c.body_lines.ensures ∙ c.set.ensures.lines) (c.tag.ensures ∙ c.set.ensures.tag) (c.tag_line.ensures ∙ c.set.ensures.tag_line)) long).1

pub returns-in_err-settle_group-clause-made : goal.returns-in_err-settle_group-clause-made
returns-in_err-settle_group-clause-made g c =
    let err : is_ok c.from_residual.result ≡ false = search rules in
    rw err (append_stops (handed c.args.place.now c.args.ring c.args.head c.args.b.now c.requires.ring c.requires.head (c.body.ensures ∙ c.set.ensures.body) (c.body_lines.ensures ∙ c.set.ensures.lines) c.set.ensures.tag c.set.ensures.tag_line) c.in_err-settle_group.ensures.made)

pub returns-clause-made : goal.returns-clause-made
returns-clause-made g c =
    append_made (handed c.args.place.now c.args.ring c.args.head c.args.b.now c.requires.ring c.requires.head (c.body.ensures ∙ c.set.ensures.body) (c.body_lines.ensures ∙ c.set.ensures.lines) (c.tag.ensures ∙ c.set.ensures.tag) (c.tag_line.ensures ∙ c.set.ensures.tag_line)) c.in_ok-settle_group.ensures.made c.settle_group-2.ensures.made
