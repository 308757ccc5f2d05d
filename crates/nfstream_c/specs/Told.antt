-- What a call tells its caller in C.
use Rattle.std.specs.Prelude.{◌≡◌, ℕ}
use Rattle.nf_c.specs.declared.moved.Moved.{Moved as Told}
use Rattle.nf_c.specs.Status.{code_of}
use Rattle.nfstream_c.specs.declared.Moved.{Moved}

pub record Tells (told : Told) (moved : Moved) (status : ℕ) : Type 0 where
  pub status_is : status ≡ code_of told.status
  pub read : moved.read ≡ told.read
  pub written : moved.written ≡ told.written
  pub at : moved.at ≡ told.at
  pub start : moved.start ≡ told.start
