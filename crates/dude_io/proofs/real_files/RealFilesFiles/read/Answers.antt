use Rattle.std.proofs.Common.{refl, arith, rules}
use Rattle.dude_io.proofs.real_files.RealFilesFiles.read.Goals as goal

pub returns-in-Err : goal.returns-in-Err
returns-in-Err g c =
    let risen = c.rise.ensures in
    let fits = c.args.self.now.faults.fits in
    record {
      reads = record {
        stays = record { faults = omega (arith, risen, fits); is_visible = refl; text = λ _. refl };
        cause = omega (arith, risen);
        listed = search rules;
      };
      faults = risen;
    }
