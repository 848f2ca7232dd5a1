use Rattle.std.proofs.Common.{◌∙◌, arith, rules}
use Rattle.pmem_trait.proofs.ReadRuns.{reads_then, read_alone}
use Rattle.image_recovery.proofs.Reading.{refused_again, refused_at_device}
use Rattle.dude_recover.proofs.OpeningFaults.{refused_unread, stops_again, stops_at_read, stops_on_the_way}
use Rattle.dude_recover.proofs.OpeningReads.{opens_behind}
use Rattle.dude_recover.proofs.opening.open_image.Goals as goal

pub returns-in_err-lay-clause-refused : goal.returns-in_err-lay-clause-refused
returns-in_err-lay-clause-refused g c =
    refused_again c.from_residual.result c.recover.result c.in_err-lay.field-0.0 (g.M.Medium.sight c.args.m.now) (search rules) c.in_err-lay.was c.recover.ensures.refused

pub returns-in_err-stale-clause-refused : goal.returns-in_err-stale-clause-refused
returns-in_err-stale-clause-refused g c =
    refused_unread c.from_residual-in_err-stale.result c.stale_lines.result c.in_err-stale.field-0.0 (g.M.Medium.sight c.args.m.now) (search rules) c.in_err-stale.was c.stale_lines.ensures.fault

pub returns-in_err-version-clause-refused : goal.returns-in_err-version-clause-refused
returns-in_err-version-clause-refused g c = refused_at_device c.from_residual-in_err-version.result (g.M.Medium.sight c.args.m.now) (search rules)

pub returns-in_err-settle_image-clause-refused : goal.returns-in_err-settle_image-clause-refused
returns-in_err-settle_image-clause-refused g c = refused_at_device c.from_residual-in_err-settle_image.result (g.M.Medium.sight c.args.m.now) (search rules)

pub returns-in_err-stale-clause-stopped : goal.returns-in_err-stale-clause-stopped
returns-in_err-stale-clause-stopped g c =
    stops_again c.from_residual-in_err-stale.result c.stale_lines.result c.in_err-stale.field-0.0 _ _ _ (search rules) c.in_err-stale.was c.in_ok-lay.ensures.reads c.stale_lines.ensures.reads

pub returns-in_err-version-clause-stopped : goal.returns-in_err-version-clause-stopped
returns-in_err-version-clause-stopped g c =
    stops_at_read c.from_residual-in_err-version.result (search rules) (reads_then (reads_then c.in_ok-lay.ensures.reads c.in_ok-stale.ensures.reads) (read_alone c.in_err-version.ensures.one_call))

-- the image was recovered, the stale heads were found, the version was read, and the calls were made
pub returns-in_err-settle_image-clause-stopped : goal.returns-in_err-settle_image-clause-stopped
returns-in_err-settle_image-clause-stopped g c =
    stops_on_the_way c.from_residual-in_err-settle_image.result (search rules) (record {
      sizes = c.in_ok-lay.lay;
      number = c.in_ok-lay.recovered.number;
      words = c.in_ok-lay.recovered.words.items;
      is = c.in_ok-lay.ensures.lawful;
      recovered = c.in_ok-lay.ensures.recovered;
      calls = opens_behind (c.of-place.ensures ∙ c.sizes.ensures.sizes) c.deref.ensures.value c.deref-2.ensures.value c.in_ok-lay.ensures.reads c.in_ok-stale.ensures.reads c.in_ok-version.ensures.one_call
          (omega (arith, c.in_ok-lay.ensures.lawful.room)) c.in_ok-version.ensures.value c.in_ok-stale.ensures.lines c.in_err-settle_image.ensures.made;
    })

pub returns-clause-made : goal.returns-clause-made
returns-clause-made g c =
    opens_behind (c.of-place.ensures ∙ c.sizes.ensures.sizes) c.deref.ensures.value c.deref-2.ensures.value c.in_ok-lay.ensures.reads c.in_ok-stale.ensures.reads c.in_ok-version.ensures.one_call
    (omega (arith, c.in_ok-lay.ensures.lawful.room)) c.in_ok-version.ensures.value c.in_ok-stale.ensures.lines c.in_ok-settle_image.ensures.made

pub returns-in_err-lay-clause-len : goal.returns-in_err-lay-clause-len
returns-in_err-lay-clause-len g c = c.recover.ensures.len

pub returns-in_err-stale-clause-len : goal.returns-in_err-stale-clause-len
returns-in_err-stale-clause-len g c = c.stale_lines.ensures.len ∙ c.in_ok-lay.ensures.len

pub returns-in_err-version-clause-len : goal.returns-in_err-version-clause-len
returns-in_err-version-clause-len g c = c.in_err-version.ensures.one_call.later.len ∙ (c.in_ok-stale.ensures.len ∙ c.in_ok-lay.ensures.len)

pub returns-in_err-settle_image-clause-len : goal.returns-in_err-settle_image-clause-len
returns-in_err-settle_image-clause-len g c = c.settle_image.ensures.len ∙ (c.in_ok-version.ensures.one_call.later.len ∙ (c.in_ok-stale.ensures.len ∙ c.in_ok-lay.ensures.len))

pub returns-clause-len : goal.returns-clause-len
returns-clause-len g c = c.settle_image.ensures.len ∙ (c.in_ok-version.ensures.one_call.later.len ∙ (c.in_ok-stale.ensures.len ∙ c.in_ok-lay.ensures.len))

pub returns-clause-lawful : goal.returns-clause-lawful
returns-clause-lawful g c = c.in_ok-lay.ensures.lawful

pub returns-clause-recovered : goal.returns-clause-recovered
returns-clause-recovered g c = c.in_ok-lay.ensures.recovered
