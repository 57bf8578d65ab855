-- Tokens that begin with the words of some forms.
use Rattle.std.proofs.Common.{◌≡◌, List, [], ◌∷◌, ◌++◌, refl, sym, subst}
use Rattle.hls_text.specs.Lines.{Text}
use Rattle.hls_scenario.specs.Forms.{Form}
use Rattle.hls_scenario.specs.Grammar.{IsToken, IsLine}

-- the tokens are those of the forms, and then the rest
abbrev pub Front : List Form → List Text → List Text → Type 0
Front [] ts rest = ts ≡ rest
Front (form ∷ forms) [] rest = ⊥
Front (form ∷ forms) (t ∷ ts) rest = IsToken form t × Front forms ts rest

pub front_join : (fs gs : List Form) (ts mid rest : List Text) → Front fs ts mid → Front gs mid rest
    → Front (fs ++ gs) ts rest
front_join [] gs ts mid rest a b = subst (λ x. Front gs x rest) (sym a) b
front_join (f ∷ fs) gs [] mid rest a b = absurd a
front_join (f ∷ fs) gs (t ∷ ts) mid rest a b = (a.0, front_join fs gs ts mid rest a.1 b)

pub front_split : (fs gs : List Form) (ts rest : List Text) → Front (fs ++ gs) ts rest
    → (mid : List Text) × Front fs ts mid × Front gs mid rest
front_split [] gs ts rest a = (ts, refl, a)
front_split (f ∷ fs) gs [] rest a = absurd a
front_split (f ∷ fs) gs (t ∷ ts) rest a =
    let more = front_split fs gs ts rest a.1 in
    (more.0, (a.0, more.1), more.2)

pub line_of_front : (fs : List Form) (ts : List Text) → Front fs ts [] → IsLine fs ts
line_of_front [] [] a = tt
line_of_front [] (t ∷ ts) a = absurd cc
line_of_front (f ∷ fs) [] a = absurd a
line_of_front (f ∷ fs) (t ∷ ts) a = (a.0, line_of_front fs ts a.1)

pub front_of_line : (fs : List Form) (ts : List Text) → IsLine fs ts → Front fs ts []
front_of_line [] [] a = refl
front_of_line [] (t ∷ ts) a = absurd a
front_of_line (f ∷ fs) [] a = absurd a
front_of_line (f ∷ fs) (t ∷ ts) a = (a.0, front_of_line fs ts a.1)
