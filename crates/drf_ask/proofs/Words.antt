-- The words of answers need no escapes.
use Rattle.std.proofs.Common.{◌≡◌, ℕ, List, [], ◌∷◌, ◌++◌, Option, Some, None, refl, sym, ap, ◌∙◌, append_assoc, codes}
use Rattle.json.specs.Print.{escape, escape_byte}
use Rattle.drf_lines.specs.ReplyLine.{line_of}
use Rattle.drf_role.specs.Text.{Text}
use Rattle.drf_ask.specs.Answer.{opening, not_reported}
use Rattle.drf_ask.specs.Question.{word_of, word_at, fault_name}
use Rattle.drf_ask.specs.declared.question.Fault.{Fault}
use Rattle.drf_ask.specs.declared.question.Fault.TheVariants.{UnknownQuestion, UnknownFramework, BadArgument, LineTooLong}
use Rattle.drf_ask.specs.declared.question.Kind.{Kind}
use Rattle.drf_ask.specs.declared.question.Kind.TheVariants.{Report, Explain, Offers, Tasks, State, Tables}

word_plain : (kind : Kind) → escape (word_of kind) ≡ word_of kind
unfolding escape_byte
word_plain Report = refl
word_plain Explain = refl
word_plain Offers = refl
word_plain Tasks = refl
word_plain State = refl
word_plain Tables = refl

at_plain : (kind : Option Kind) → escape (word_at kind) ≡ word_at kind
unfolding escape_byte
at_plain None = refl
at_plain (Some kind) = word_plain kind

fault_plain : (fault : Fault) → escape (fault_name fault) ≡ fault_name fault
unfolding escape_byte
fault_plain UnknownQuestion = refl
fault_plain UnknownFramework = refl
fault_plain BadArgument = refl
fault_plain LineTooLong = refl

opened : (word : Text) → escape word ≡ word
    → codes "{\"asked\":\"" ++ (word ++ (codes "\",\"" ++ (word ++ codes "\":"))) ≡ opening word
unfolding escape_byte
opened word plain =
    let w = escape word in
    ap (λ l. codes "{\"asked\":\"" ++ l)
    ((λ i. sym plain i ++ (34 ∷ 44 ∷ 34 ∷ (sym plain i ++ 34 ∷ 58 ∷ [])))
    ∙ ap (λ (l : List ℕ). w ++ (34 ∷ 44 ∷ 34 ∷ l)) (sym (append_assoc w (34 ∷ []) (58 ∷ [])))
    ∙ sym (append_assoc w (34 ∷ []) (44 ∷ 34 ∷ ((w ++ 34 ∷ []) ++ 58 ∷ []))))

pub opening_is : (kind : Kind)
    → codes "{\"asked\":\"" ++ (word_of kind ++ (codes "\",\"" ++ (word_of kind ++ codes "\":"))) ≡ opening (word_of kind)
opening_is kind = opened (word_of kind) (word_plain kind)

-- the bytes between the word and the error, after the opening quote
between : List ℕ
between = 44 ∷ 34 ∷ 102 ∷ 97 ∷ 117 ∷ 108 ∷ 116 ∷ 34 ∷ 58 ∷ 34 ∷ []

regrouped : (w f : List ℕ)
    → w ++ (34 ∷ (between ++ (f ++ (34 ∷ 125 ∷ 10 ∷ []))))
    ≡ ((w ++ 34 ∷ []) ++ (between ++ ((f ++ 34 ∷ []) ++ 125 ∷ []))) ++ 10 ∷ []
unfolding between
regrouped w f =
    let rest : List ℕ = between ++ ((f ++ 34 ∷ []) ++ 125 ∷ []) in
    ap (λ (l : List ℕ). w ++ (34 ∷ (between ++ l)))
    (sym (append_assoc f (34 ∷ []) (125 ∷ 10 ∷ [])) ∙ sym (append_assoc (f ++ 34 ∷ []) (125 ∷ []) (10 ∷ [])))
    ∙ ap (λ (l : List ℕ). w ++ (34 ∷ l)) (sym (append_assoc between ((f ++ 34 ∷ []) ++ 125 ∷ []) (10 ∷ [])))
    ∙ sym (append_assoc w (34 ∷ []) (rest ++ 10 ∷ []))
    ∙ sym (append_assoc (w ++ 34 ∷ []) rest (10 ∷ []))

refused : (word fault : Text) → escape word ≡ word → escape fault ≡ fault
    → codes "{\"asked\":\"" ++ (word ++ (codes "\",\"fault\":\"" ++ (fault ++ codes "\"}\n"))) ≡ line_of (not_reported word fault)
unfolding escape_byte between
refused word fault plain also =
    ap (λ (l : List ℕ). codes "{\"asked\":\"" ++ l)
    ((λ i. sym plain i ++ (codes "\",\"fault\":\"" ++ (sym also i ++ codes "\"}\n"))) ∙ regrouped (escape word) (escape fault))

pub not_reported_is : (kind : Option Kind) (fault : Fault)
    → codes "{\"asked\":\"" ++ (word_at kind ++ (codes "\",\"fault\":\"" ++ (fault_name fault ++ codes "\"}\n")))
    ≡ line_of (not_reported (word_at kind) (fault_name fault))
not_reported_is kind fault = refused (word_at kind) (fault_name fault) (at_plain kind) (fault_plain fault)
