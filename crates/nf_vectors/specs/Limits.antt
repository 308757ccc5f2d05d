-- How much of a vector file is read, in bytes.
use Rattle.std.specs.Prelude.{ℕ}

-- the most that it may have
abbrev pub limit : ℕ
limit = 67108864

-- the most that is asked of the source at once
abbrev pub block : ℕ
block = 4096
