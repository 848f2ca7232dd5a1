use Rattle.std.proofs.Common.{◌∙◌, ap, map, refl, sym, subst}
use Rattle.std.specs.Rc.{rc_str_bytes}
use Rattle.std.proofs.lemmas.List.{length-map}
use Rattle.back_store.specs.Back.{BackState}
use Rattle.back_store.specs.BackView.{medium_of}
use Rattle.dude_follow.specs.Applying.{IsAtRest}
use Rattle.dude_follow.proofs.TakenPackets.{rests_idle}
use Rattle.command_edges.specs.Command.{Meaning.FollowFiles}
use Rattle.dude_program.proofs.EachCommand.{follow_opens}
use Rattle.dude_program.proofs.FollowEnds.{follows_unopened, follows_unread, read_fault}
use Rattle.dude_program.proofs.FollowStops.{all_ends, no_follower, stop_ends}
use Rattle.dude_program.proofs.Followed.{packet_files_read}
use Rattle.dude_program.proofs.Stops.{ends_at_files, ends_at_open, prefix_at_rest, unless_opened}
use Rattle.dude_program.proofs.follow.follow.Goals as goal

-- the files weren't read
pub returns-in-Err-clause-ends : goal.returns-in-Err-clause-ends
returns-in-Err-clause-ends g c =
    let names = map rc_str_bytes c.args.names.now in
    let meaning = FollowFiles names in
    rw (c.refused.ensures.medium, c.refused.ensures.done, c.refused.ensures.fault)
    (ends_at_files meaning (prefix_at_rest meaning (g.M.Medium.sight c.args.medium) c.requires.settled) c.in-Err.fault c.in-Err.ensures.reads
    (read_fault names _ _ c.in-Err.fault c.in-Err.ensures.cause) c.in-Err.ensures.missing)

pub returns-in-Err-clause-follows : goal.returns-in-Err-clause-follows
returns-in-Err-clause-follows g c =
    rw (c.refused.ensures.medium, c.refused.ensures.fault)
    (follows_unread (map rc_str_bytes c.args.names.now) (g.M.Medium.sight c.args.medium) c.requires.settled _ _ _ c.in-Err.fault c.in-Err.ensures.cause)

-- the image wasn't opened
pub returns-in-Err-open_and_announce-clause-ends : goal.returns-in-Err-open_and_announce-clause-ends
returns-in-Err-open_and_announce-clause-ends g c =
    let names = map rc_str_bytes c.args.names.now in
    let stop = c.in-Err-open_and_announce in
    rw (c.refused-in-Err-open_and_announce.ensures.medium, c.refused-in-Err-open_and_announce.ensures.done, c.refused-in-Err-open_and_announce.ensures.fault)
    (ends_at_open (follow_opens names _) (packet_files_read names c.in-Ok.texts.items c.in-Ok.ensures.read c.in-Ok.ensures.reads)
    stop.ensures.prefix (unless_opened (follow_opens names _) refl stop.ensures.only_read) stop.fault stop.ensures.fault)

pub returns-in-Err-open_and_announce-clause-follows : goal.returns-in-Err-open_and_announce-clause-follows
returns-in-Err-open_and_announce-clause-follows g c =
    rw (c.refused-in-Err-open_and_announce.ensures.medium, c.refused-in-Err-open_and_announce.ensures.fault)
    (follows_unopened (map rc_str_bytes c.args.names.now) (g.M.Medium.sight c.args.medium) c.requires.settled _ _ _ _ c.in-Err-open_and_announce.fault c.in-Err-open_and_announce.ensures.fault)

-- there was no memory for the follower
pub returns-in-Err-new : goal.returns-in-Err-new
returns-in-Err-new g c =
    let image = c.in-Ok-open_and_announce in
    let both =
    no_follower (map rc_str_bytes c.args.names.now) (g.K.Sink.sight c.args.out.now) c.in-Ok.texts.items c.in-Ok.ensures.read c.in-Ok.ensures.reads c.args.medium c.requires.settled image.opened image.ensures.opened
    image.ensures.is_open image.ensures.recovered in
    let ended = c.refused-in-Err-new.ensures in
    let medium = ended.medium ∙ (c.into_medium.ensures ∙ ap (λ x. medium_of x.back) c.in-Err-new.ensures.refused) in
    record { ends = rw (medium, ended.done, ended.fault) both.0; follows = rw (medium, ended.fault) both.1 }

pub take_texts-requires-clause-rests : goal.take_texts-requires-clause-rests
take_texts-requires-clause-rests g c =
    let o = c.in-Ok-open_and_announce.opened in
    let opened = c.in-Ok-open_and_announce.ensures.opened in
    subst (λ (v : BackState). IsAtRest v) (sym c.in-Ok-new.ensures.starts.back) (rests_idle o.sizes o.number opened.accepted opened.small)

-- all was taken
pub returns-in-Ok-take_texts : goal.returns-in-Ok-take_texts
returns-in-Ok-take_texts g c =
    let names = map rc_str_bytes c.args.names.now in
    let image = c.in-Ok-open_and_announce in
    let made = c.in-Ok-new in
    let both =
    all_ends names (g.K.Sink.sight c.args.out.now) c.in-Ok.texts.items c.in-Ok.ensures.read c.in-Ok.ensures.reads c.args.medium c.requires.settled image.opened image.ensures.opened image.ensures.is_open image.ensures.recovered
    (rw (length-map c.args.names.now rc_str_bytes) c.requires.some) c.deref.result.now c.deref.ensures.value made.follower c.take_texts.new.follower made.ensures.starts made.ensures.holds c.in-Ok-take_texts.dropped c.number.result c.waiting.result c.print_followed-fault.result
    c.in-Ok-take_texts.ensures c.number.ensures c.waiting.ensures.kept c.print_followed-fault.ensures in
    let ended = c.new-in-Ok-take_texts-2.ensures in
    let medium = ended.medium ∙ c.into_medium-in-Ok-take_texts.ensures in
    let done = ap (λ v. v.items) ended.done ∙ c.new-in-Ok-take_texts.ensures.items in
    record { ends = rw (medium, done, ended.fault) both.0; follows = rw (medium, ended.fault) both.1 }

-- a text stopped it
pub returns : goal.returns
returns g c =
    let names = map rc_str_bytes c.args.names.now in
    let image = c.in-Ok-open_and_announce in
    let made = c.in-Ok-new in
    let both =
    stop_ends names (g.K.Sink.sight c.args.out.now) c.in-Ok.texts.items c.in-Ok.ensures.read c.in-Ok.ensures.reads c.args.medium c.requires.settled image.opened image.ensures.opened image.ensures.is_open image.ensures.recovered
    (rw (length-map c.args.names.now rc_str_bytes) c.requires.some) c.deref.result.now c.deref.ensures.value made.follower c.take_texts.new.follower made.ensures.starts made.ensures.holds c.in-Err-take_texts.fault c.in-Err-take_texts.ensures in
    let ended = c.refused-in-Err-take_texts.ensures in
    let medium = ended.medium ∙ c.into_medium-in-Err-take_texts.ensures in
    record { ends = rw (medium, ended.done, ended.fault) both.0; follows = rw (medium, ended.fault) both.1 }
