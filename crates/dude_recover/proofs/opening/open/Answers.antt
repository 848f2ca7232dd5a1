use Rattle.std.proofs.Common.{sym, ap, subst, inr}
use Rattle.image_recovery.specs.Faults.{IsFaultOn}
use Rattle.dude_recover.proofs.OpeningFaults.{no_device}
use Rattle.dude_recover.proofs.OpeningMoments.{array_recovers, opened_at, opened_same, opens_moments, left_by, stops_cause, stops_reading, stopped_moments}
use Rattle.dude_recover.proofs.opening.open.Goals as goal

pub returns-in-Ok-new-clause-opens : goal.returns-in-Ok-new-clause-opens
returns-in-Ok-new-clause-opens g c =
    let parts = c.in-Ok-new.ensures.parts in
    opened_same parts.0 parts.1 parts.2 (ap (λ m. g.M.Medium.sight m) c.in-Ok-new.ensures.medium) (opened_at c.requires.settled c.in-Ok.ensures.lawful c.in-Ok.ensures.recovered c.in-Ok.ensures.len c.in-Ok.ensures.made)

pub returns-in-Err-clause-refused : goal.returns-in-Err-clause-refused
returns-in-Err-clause-refused g c =
    let stopped = c.in-Err.ensures.stopped in
    record {
      content = c.in-Err.ensures.refused;
      cause = stops_cause (g.M.Medium.sight c.args.medium) _ c.requires.settled c.in-Err.fault stopped;
      len = c.in-Err.ensures.len;
      calls = left_by (g.M.Medium.sight c.args.medium) _ c.requires.settled c.in-Err.fault stopped;
      moments = λ number sizes db to. stopped_moments (g.M.Medium.sight c.args.medium) _ c.requires.settled number sizes db to c.in-Err.fault stopped;
      only_read = λ nothing. stops_reading c.in-Err.fault nothing stopped;
    }

-- there was no memory for the back
pub returns-in-Err-new-clause-refused : goal.returns-in-Err-new-clause-refused
returns-in-Err-new-clause-refused g c =
    let s = g.M.Medium.sight c.args.medium in
    let found = c.in-Ok.ensures in
    rw c.in-Err-new.ensures.medium (record {
      content = subst (IsFaultOn s) (sym c.from.ensures) (λ visible content holds. tt);
      cause = λ is. absurd (no_device c.from.result c.from.ensures is);
      len = found.len;
      calls = rw c.from.ensures (inr (record {
        sizes = c.in-Ok.found.0;
        number = c.in-Ok.found.1.number;
        words = c.in-Ok.found.1.words.items;
        is = found.lawful;
        recovered = found.recovered;
        calls = found.made;
      }));
      moments = opens_moments c.requires.settled found.lawful.small found.recovered found.made;
      only_read = λ nothing. absurd (nothing c.in-Ok.found.1.number c.in-Ok.found.0 found.lawful.lawful.0 (array_recovers s found.recovered found.lawful.lawful));
    })
