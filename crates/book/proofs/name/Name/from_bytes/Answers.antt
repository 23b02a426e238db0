use Rattle.std.proofs.Common.{◌≡◌, true, sym, ap, ◌∙◌, arith, rules}
use Rattle.std.proofs.lemmas.Iterator.{YieldsList-from_slice}
use Rattle.std.proofs.lemmas.Iterator.Search.{all_from_yields_List}
use Rattle.book.specs.Names.{name_char, name_chars}
use Rattle.book.proofs.Copying.{sized, padded, copied}
use Rattle.book.proofs.name.Name.from_bytes.Goals as goal

pub invariant_of-result : goal.invariant_of-result
invariant_of-result c =
    let v = c.args.v.now in
    let w = c.copy_from_slice.new.self in
    let a : c.all.result ≡ name_chars v = all_from_yields_List name_char _ _ _ c.all.ensures.ran (YieldsList-from_slice v cc) (λ x b q k. search rules) in
    let t : name_chars v ≡ true = sym a ∙ c.if-not-all.false in
    record {
      sized = sized v w c.copy_from_slice.ensures.after (omega arith);
      short = omega arith;
      formed = ap name_chars (copied v w c.copy_from_slice.ensures.after (omega arith)) ∙ t;
      padded = padded v w c.copy_from_slice.ensures.after (omega arith);
    }
