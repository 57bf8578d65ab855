-- Texts in JSON, as much of it as serves: signs of ASCII in strings, whole numbers, objects and arrays. Each word is of
-- a text and of what is left behind the part that it begins with.
use Rattle.std.specs.Prelude.{◌≡◌, ℕ, ◌==◌, ◌&&◌, ◌||◌, nat_le, not, true, Bool, [], ◌∷◌, ◌++◌, codes}
use Rattle.std.specs.List.{list_all, list_any}
use Rattle.hls_text.specs.Lines.{Text}
use Rattle.hls_text.specs.Numbers.{is_number, is_digit}

-- a space, a tab, or the end of a line
abbrev pub is_blank : ℕ → Bool
is_blank byte = byte == 32 || byte == 9 || byte == 10 || byte == 13

-- a space or a visible sign, but for " and \
abbrev pub is_plain : ℕ → Bool
is_plain byte = nat_le 32 byte && nat_le byte 126 && not (byte == 34) && not (byte == 92)

-- what may stand behind \
abbrev pub is_escape : ℕ → Bool
is_escape byte = list_any (λ sign. sign == byte) (codes "\"\\/bfnrt")

abbrev pub is_hex : ℕ → Bool
is_hex byte = is_digit byte || (nat_le 65 byte && nat_le byte 70) || (nat_le 97 byte && nat_le byte 102)

-- the signs of a string, and the " behind them
pub data AreSigns : (text rest : Text) → Type 0 where
  closed : {rest : Text} → AreSigns (34 ∷ rest) rest
  plain : {byte : ℕ} {text rest : Text} → is_plain byte ≡ true → AreSigns text rest → AreSigns (byte ∷ text) rest
  escaped : {byte : ℕ} {text rest : Text} → is_escape byte ≡ true → AreSigns text rest
      → AreSigns (92 ∷ byte ∷ text) rest
  coded : {a b c d : ℕ} {text rest : Text} → list_all is_hex (a ∷ b ∷ c ∷ d ∷ []) ≡ true → AreSigns text rest
      → AreSigns (92 ∷ 117 ∷ a ∷ b ∷ c ∷ d ∷ text) rest

mutual
  pub data IsValue : (text rest : Text) → Type 0 where
    string : {text rest : Text} → AreSigns text rest → IsValue (34 ∷ text) rest
    number : {rest : Text} (digits : Text) → is_number digits ≡ true → IsValue (digits ++ rest) rest
    object : {text rest : Text} → IsObject text rest → IsValue text rest
    array : {text rest : Text} → IsArray text rest → IsValue text rest

  pub data IsObject : (text rest : Text) → Type 0 where
    without : {rest : Text} (gap : Text) → list_all is_blank gap ≡ true → IsObject (123 ∷ (gap ++ 125 ∷ rest)) rest
    members : {text rest : Text} → AreMembers text rest → IsObject (123 ∷ text) rest

  -- a name, a colon, a value, and what comes next
  pub data AreMembers : (text rest : Text) → Type 0 where
    member : {text value next rest : Text} (gap : Text) → list_all is_blank gap ≡ true → AreSigns text (58 ∷ value)
        → IsValue value next → MayEnd next rest → AreMembers (gap ++ 34 ∷ text) rest

  -- further members, or the end of the object
  pub data MayEnd : (text rest : Text) → Type 0 where
    more : {text rest : Text} → AreMembers text rest → MayEnd (44 ∷ text) rest
    end : {rest : Text} (gap : Text) → list_all is_blank gap ≡ true → MayEnd (gap ++ 125 ∷ rest) rest

  pub data IsArray : (text rest : Text) → Type 0 where
    empty : {rest : Text} (gap : Text) → list_all is_blank gap ≡ true → IsArray (91 ∷ (gap ++ 93 ∷ rest)) rest
    items : {text rest : Text} → AreItems text rest → IsArray (91 ∷ text) rest

  -- a value, and what comes next
  pub data AreItems : (text rest : Text) → Type 0 where
    item : {value next rest : Text} (gap : Text) → list_all is_blank gap ≡ true → IsValue value next
        → MayClose next rest → AreItems (gap ++ value) rest

  -- further values, or the end of the array
  pub data MayClose : (text rest : Text) → Type 0 where
    further : {text rest : Text} → AreItems text rest → MayClose (44 ∷ text) rest
    close : {rest : Text} (gap : Text) → list_all is_blank gap ≡ true → MayClose (gap ++ 93 ∷ rest) rest

-- a whole text: one object, and blanks behind it
pub record IsJson (text : Text) : Type 0 where
  pub rest : Text
  pub blank : list_all is_blank rest ≡ true
  pub one : IsObject text rest
