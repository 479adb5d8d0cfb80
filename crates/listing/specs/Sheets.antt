-- Texts that are written part by part into a lent buffer.
use Rattle.std.specs.Prelude.{◌≡◌, ℕ, ◌+◌, ◌≤◌, List, length}
use Rattle.memory.specs.Page.{put}
use Rattle.listing.specs.declared.sheet.Sheet.{Sheet}

-- the buffer has room for w behind the text
abbrev pub Room : Sheet → List ℕ → Type 0
Room p w = p.at + length w ≤ length p.into.now

-- from p to q, in the same buffer, exactly w was written behind the text
pub record Wrote (p q : Sheet) (w : List ℕ) : Type 0 where
  pub same : q.into.ghost_name ≡ p.into.ghost_name
  pub place : q.at ≡ p.at + length w
  pub buffer : q.into.now ≡ put p.at w p.into.now
