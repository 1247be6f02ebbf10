-- What gathering in a buffer leaves.
use Rattle.std.specs.Prelude.{◌≡◌, List, ℕ, ◌+◌, ◌<◌, ◌≤◌, max, length}
use Rattle.model.specs.Bytes.{stored}

-- `more` is put after the first `held` bytes of a line where it has room for both; else the line
-- stays, and more are held from then on than it has bytes
pub record Appended (line : List ℕ) (held : ℕ) (more : List ℕ) (now-held : ℕ) (after : List ℕ) : Type 0 where
  pub fits : held + length more ≤ length line → (now-held ≡ held + length more) × (after ≡ stored held more line)
  pub without_end : length line < held + length more → (now-held ≡ max held (length line + 1)) × (after ≡ line)
