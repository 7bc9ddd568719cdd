-- Which library this is. Assumes nothing.
use Rattle.std.specs.Prelude.{ℕ}

-- Raised whenever the words of the storage, a record that crosses or a call changes. 1 is every library that cannot be asked: its seconds have rows of
-- four words and its changes ten, in 18,308 words, and its series has three buffers.
abbrev pub version : ℕ
version = 2
