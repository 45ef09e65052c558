-- Reading a stream to its end.
use Rattle.std.specs.Prelude.{ℕ, ◌<◌, List, length, Option, Some, None, Result, Ok, Err}
use Rattle.std.specs.Global.{Vec}
use Rattle.std.specs.Io.KnownBytes.{Consumes, IsAtEnd}
use Rattle.lnet_edge.specs.Outside.{file_limit}
use Rattle.lnet_edge.specs.declared.outside.FetchError.{FetchError}
use Rattle.lnet_edge.specs.declared.outside.FetchError.TheVariants as fetch

-- the known bytes are more than a file may have
abbrev pub IsPastLimit : Option (List ℕ) → Type 0
IsPastLimit None = Unit {0}
IsPastLimit (Some bytes) = file_limit < length bytes

-- all that was left is read, where that is known, or it is too long
abbrev pub ReadsAll : Option (List ℕ) → Option (List ℕ) → Result (Vec ℕ) FetchError → Type 0
ReadsAll before now (Ok v) = Consumes before now v.items × IsAtEnd now
ReadsAll before now (Err fetch.TooLong) = IsPastLimit before
ReadsAll before now (Err fetch.Failed) = Unit {0}
ReadsAll before now (Err fetch.NoMemory) = Unit {0}
