use Rattle.std.proofs.Common.{◌++◌, drop, sym, refl, ap, ◌∙◌}
use Rattle.listing.specs.Writing.{listing}
use Rattle.listing.proofs.Keeping.{same_text, reads-again}
use Rattle.listing.proofs.rewrite.rewrite.Goals as goal

pub returns : goal.returns
returns c =
    let m = c.in_ok-needed.ensures.measured in
    let a = reads-again 1 m.reads refl in
    record {
      items = m.items;
      exchanges = m.exchanges;
      reads = m.reads;
      size = m.size;
      buffer = c.copy_kept.ensures m.items m.exchanges m.reads ∙ ap (λ n. listing m.exchanges ++ drop n c.args.into.now) (sym m.size);
      same = λ h. same_text m.reads refl h;
      items-again = a.0;
      again = a.1;
    }
