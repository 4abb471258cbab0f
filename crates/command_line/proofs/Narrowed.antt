-- A parser of bytes that bounds make narrower.
use Rattle.std.proofs.Common.{◌≡◌, pos, Some, Option, ℤ}
use Rattle.std.proofs.Math.Path.{subst, subst₂}
use Rattle.clap.specs.{Values.NarrowsTo, declared.builder.value_parser.ValueParser.ValueParser, declared.builder.value_parser.ValueParser.TheVariants.Signed}

-- with these bounds
pub narrowed : (parser result : ValueParser) (least most : Option ℤ) (low high : ℤ) → parser ≡ Signed (pos 0) (pos 255)
    → least ≡ Some low → most ≡ Some high → NarrowsTo parser least most result
    → NarrowsTo (Signed (pos 0) (pos 255)) (Some low) (Some high) result
narrowed parser result least most low high bytes first last narrows =
    subst (λ p. NarrowsTo p (Some low) (Some high) result) bytes
    (subst₂ (λ a b. NarrowsTo parser a b result) first last narrows)
