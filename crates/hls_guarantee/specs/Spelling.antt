-- The text of a guarantee: one for each.
use Rattle.std.specs.Prelude.{◌≡◌, ℕ, ◌==◌, ◌++◌, List, codes, decimal, if◌then◌else◌, true, false}
use Rattle.hls_frac.specs.declared.Frac.{Frac}
use Rattle.hls_guarantee.specs.declared.Guarantee.{Guarantee}
use Rattle.hls_guarantee.specs.declared.Guarantee.TheVariants.{All, Null, Resb, Resc, Psbe}

-- a whole number stands without its denominator
abbrev pub fraction_text : Frac → List ℕ
fraction_text f = if f.den == 1 then decimal f.num else decimal f.num ++ codes "/" ++ decimal f.den

abbrev pub with_fields : (word first second : List ℕ) → List ℕ
with_fields word first second = word ++ codes " " ++ first ++ codes " " ++ second

abbrev pub spelling : Guarantee → List ℕ
spelling All = codes "ALL"
spelling Null = codes "NULL"
spelling (Resb true x y) = with_fields (codes "RESBH") (decimal x) (decimal y)
spelling (Resb false x y) = with_fields (codes "RESBS") (decimal x) (decimal y)
spelling (Resc true x y) = with_fields (codes "RESCH") (decimal x) (decimal y)
spelling (Resc false x y) = with_fields (codes "RESCS") (decimal x) (decimal y)
spelling (Psbe s d) = with_fields (codes "PSBE") (fraction_text s) (fraction_text d)

-- the three parts spell the guarantee
abbrev pub HasFields : Guarantee → (word first second : List ℕ) → Type 0
HasFields All word first second = ⊥
HasFields Null word first second = ⊥
HasFields (Resb true x y) word first second =
    (word ≡ codes "RESBH") × (first ≡ decimal x) × (second ≡ decimal y)
HasFields (Resb false x y) word first second =
    (word ≡ codes "RESBS") × (first ≡ decimal x) × (second ≡ decimal y)
HasFields (Resc true x y) word first second =
    (word ≡ codes "RESCH") × (first ≡ decimal x) × (second ≡ decimal y)
HasFields (Resc false x y) word first second =
    (word ≡ codes "RESCS") × (first ≡ decimal x) × (second ≡ decimal y)
HasFields (Psbe s d) word first second =
    (word ≡ codes "PSBE") × (first ≡ fraction_text s) × (second ≡ fraction_text d)
