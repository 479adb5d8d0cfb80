use Rattle.driver.proofs.attach.learn.Goals as goal

pub returns-clause-trace : goal.returns-clause-trace
returns-clause-trace g c = g.met.P.Port.joins _ _ _ _ _ c.capacity.ensures.trace c.status.ensures.trace
