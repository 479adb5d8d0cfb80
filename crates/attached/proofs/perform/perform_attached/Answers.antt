use Rattle.std.proofs.Common.{refl, ap}
use Rattle.port.specs.Chip.{Chip}
use Rattle.attached.proofs.perform.perform_attached.Goals as goal

pub returns : goal.returns
returns g c =
    let e = c.in_ok-driver.ensures in
    let p = c.perform.ensures in
    record {
      attaches = e.0;
      driver = c.in_ok-driver.driver;
      frames = e.3;
      rests = e.2;
      idle = rw e.1 refl;
      image = ap (λ (x : Chip). x.image) e.2;
      records = p.records;
      kept = p.kept;
    }
