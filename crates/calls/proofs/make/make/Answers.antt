use Rattle.calls.proofs.Owing.{owed_follows}
use Rattle.calls.proofs.Writing.{write_owed}
use Rattle.calls.proofs.make.make.Goals as goal

-- the write, of the bytes that were lent, is one of the bytes handed in
pub returns-in-Write-clause-follows : goal.returns-in-Write-clause-follows
returns-in-Write-clause-follows g c =
    owed_follows _ _ _ _ _ _ c.from-in-Write.ensures
    (write_owed _ g.met.P.Part.stays g.met.P.Part.joins _ _ _ _ _ _ _ (rw c.deref.ensures.value at c.write.ensures) _)
