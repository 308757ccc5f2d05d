-- The character that ends a line.
use Rattle.std.specs.Prelude.{ℕ}

-- U+000A LINE FEED
abbrev pub line_feed : ℕ
line_feed = 0xA
