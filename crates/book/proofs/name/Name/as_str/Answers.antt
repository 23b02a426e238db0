use Rattle.std.proofs.Common.{rules}
use Rattle.std.specs.Str.{IsUtf8}
use Rattle.std.proofs.lemmas.Str.{IsUtf8-from_ascii}
use Rattle.book.specs.Places.{name_of}
use Rattle.book.proofs.Copying.{name_ascii}
use Rattle.book.proofs.name.Name.as_str.Goals as goal

pub unwrap-requires : goal.unwrap-requires
unwrap-requires c =
    let n = c.args.self.now in
    let u : IsUtf8 c.as_bytes.result.now = rw c.as_bytes.ensures (IsUtf8-from_ascii (name_of n) (name_ascii (name_of n) n.formed)) in
    search rules
