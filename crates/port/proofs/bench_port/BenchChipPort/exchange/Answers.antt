use Rattle.std.proofs.Common.{length, is_ok, sym}
use Rattle.port.specs.Bench.{chip_of}
use Rattle.port.specs.Machine.{frame}
use Rattle.port.proofs.Settled.{settles_if, shows_if, runs_if}
use Rattle.port.proofs.bench_port.BenchChipPort.exchange.Goals as goal

pub returns-clause-back : goal.returns-clause-back
returns-clause-back c =
    let b = c.args.self.now in
    shows_if (is_ok c.transfer.result) (chip_of b) (frame c.args.sent.now (length c.args.back.now)) _ _ b.status.steady c.transfer.ensures.back

pub returns-clause-chip : goal.returns-clause-chip
returns-clause-chip c =
    let b = c.args.self.now in
    settles_if (is_ok c.transfer.result) b.busy_number (chip_of b) (chip_of c.transfer.new.self) (frame c.args.sent.now (length c.args.back.now)) c.transfer.ensures.chip

pub returns-clause-trace : goal.returns-clause-trace
returns-clause-trace c =
    let b = c.args.self.now in (
      runs_if (is_ok c.transfer.result) b.busy_number (chip_of b) (chip_of c.transfer.new.self) (frame c.args.sent.now (length c.args.back.now)) c.transfer.ensures.chip,
      sym c.transfer.ensures.number,
    )
