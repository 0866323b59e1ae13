-- No reply line is an event: no key of its JSON begins with `e`, as `event` does.
use Rattle.std.proofs.Common.{◌≡◌, ℕ, zero, suc, ◌/◌, ◌%◌, ◌<◌, Bool, true, false, cond, ◌&&◌, ◌==◌, List, [], ◌∷◌, ◌++◌, length, get_or, map, Option, Some, None, option_and_then, option_map, is_err, Err, refl, sym, ap, ◌∙◌, subst, append_assoc, append-nil, codes, decimal, arith}
use Rattle.std.specs.Prelude.{⊤, ◌-◌, if◌then◌else◌, nat_eq, nat_lt, take, drop}
use Rattle.std.specs.List.{starts_with}
use Rattle.std.specs.Fmt.{digit_glyph, digits_onto, digits}
use Rattle.std.specs.Option.{ok_or}
use Rattle.std.specs.Str.{is_utf8}
use Rattle.std.proofs.lemmas.Bool.{true≢false}
use Rattle.std.proofs.lemmas.List.{append_cancel_right}
use Rattle.json.specs.Json as json
use Rattle.json.specs.Lex.{Lexeme, token, comma, colon, lex, between, in_word, class, other, lex_byte, string_token, Place, fresh, after_value, after_comma, after_key, begins_colon, if_allowed, may_begin, may_close, place_token, punctuate, tokens}
use Rattle.json.specs.Print.{escape, quoted, token_text, begins, ends, print_from, print}
use Rattle.json.specs.Token.{Token, begin_object, end_object, begin_array, end_array, key, string, number, boolean, null, bad}
use Rattle.json.specs.Tree.{json_tokens, items_tokens, members_tokens}
use Rattle.json.specs.Ascii as ascii
use Rattle.json.specs.Word.{head, ends_word, after_number, number_before, literal, word}
use Rattle.json.proofs.Printed.Numbers.{in_word-ended}
use Rattle.json.proofs.Printed.Strings.{content-escape, lex-escape}
use Rattle.json.proofs.Unique.Spelling.{value-json_tokens_back}
use Rattle.serde_json.specs.Data.{Num, Data, Items, Members, no_members, put}
use Rattle.serde_json.specs.Find.{get, get_member}
use Rattle.serde_json.specs.Read.{of_json, of_members, max_depth, read}
use Rattle.serde_json.specs.View.{items_of}
use Rattle.serde_json.specs.Written.{outline, items_outline, compact_text}
use Rattle.serde_json.proofs.Texts.{print-outline}
use Rattle.serde_json.proofs.Views.{get_member-put_other}
use Rattle.drf_rows.specs.Refusal.{refusal_name, refusal_number}
use Rattle.drf_rows.specs.declared.report.NodeLine.{NodeLine}
use Rattle.drf_rows.specs.declared.reply.OfferLine.{OfferLine}
use Rattle.drf_rows.specs.declared.reply.Reply.{Reply}
use Rattle.drf_rows.specs.declared.reply.Reply.TheVariants.{Done, Offers, Report, Refused}
use Rattle.drf_lines.specs.declared.fault.LineFault.TheVariants.{LineTooLong, NotJson}
use Rattle.drf_lines.specs.Meaning.{longest_line, value_in, event_in, meaning_of}
use Rattle.drf_lines.specs.Fault.{◌>>=◌, fault_name, fault_number}
use Rattle.drf_lines.specs.Object.{text_at}
use Rattle.drf_lines.specs.ReplyLine.{offer_value, refused_value, reply_value, reply_line, fault_line}
use Rattle.drf_lines.specs.ReportLine.{amounts_text, node_value}
use Rattle.drf_journal.specs.JournalLaws.{RepliesAreNoEvents, FaultsAreNoEvents}

abbrev begins_with_e : List ℕ → Bool
begins_with_e text = get_or text 0 0 == 101

-- ---- tokens without a key that begins with `e`

abbrev is_e_key : Token → Bool
is_e_key (key text) = begins_with_e text
is_e_key t = false

abbrev HaveNoEKeys : List Token → Type 0
HaveNoEKeys [] = ⊤
HaveNoEKeys (t ∷ ts) = (is_e_key t ≡ false) × HaveNoEKeys ts

no_e-right : (ts us : List Token) → HaveNoEKeys (ts ++ us) → HaveNoEKeys us
no_e-right [] us none = none
no_e-right (t ∷ ts) us none = no_e-right ts us none.1

-- ---- lexemes without a text before a colon that begins with `e`

abbrev is_e_text : Token → Bool
is_e_text (string text) = begins_with_e text
is_e_text t = false

abbrev HaveNoETexts : List Lexeme → Type 0
HaveNoETexts [] = ⊤
HaveNoETexts (token t ∷ ls) = ((is_e_text t && begins_colon ls) ≡ false) × HaveNoETexts ls
HaveNoETexts (comma ∷ ls) = HaveNoETexts ls
HaveNoETexts (colon ∷ ls) = HaveNoETexts ls

and_true : (b : Bool) → (b && true) ≡ false → b ≡ false
and_true true e = e
and_true false e = refl

and_false : (b : Bool) → (b && false) ≡ false
and_false true = refl
and_false false = refl

allowed : (may : Bool) (t : Token) (more : Place → List Token) (next : Place) → is_e_key t ≡ false → HaveNoEKeys (more next)
    → HaveNoEKeys (if_allowed may t more next)
allowed true t more next one rest = (one, rest)
allowed false t more next one rest = (refl, tt)

placed : (p : Place) (t : Token) (before_colon : Bool) (more : Place → List Token) → (is_e_text t && before_colon) ≡ false
    → ((next : Place) → HaveNoEKeys (more next)) → HaveNoEKeys (place_token p t before_colon more)
placed p begin_object b more none rest = allowed (may_begin p) begin_object more fresh refl (rest fresh)
placed p end_object b more none rest = allowed (may_close p) end_object more after_value refl (rest after_value)
placed p begin_array b more none rest = allowed (may_begin p) begin_array more fresh refl (rest fresh)
placed p end_array b more none rest = allowed (may_close p) end_array more after_value refl (rest after_value)
placed p (key text) b more none rest = (refl, tt)
placed p (string text) true more none rest =
    allowed (may_begin p) (key text) more after_key (and_true (begins_with_e text) none) (rest after_key)
placed p (string text) false more none rest = allowed (may_begin p) (string text) more after_value refl (rest after_value)
placed p (number text) b more none rest = allowed (may_begin p) (number text) more after_value refl (rest after_value)
placed p (boolean x) b more none rest = allowed (may_begin p) (boolean x) more after_value refl (rest after_value)
placed p null b more none rest = allowed (may_begin p) null more after_value refl (rest after_value)
placed p bad b more none rest = (refl, tt)

punctuated : (p : Place) (ls : List Lexeme) → HaveNoETexts ls → HaveNoEKeys (punctuate p ls)
unfolding punctuate
punctuated fresh [] none = tt
punctuated after_value [] none = tt
punctuated after_comma [] none = (refl, tt)
punctuated after_key [] none = (refl, tt)
punctuated fresh (token t ∷ ls) none = placed fresh t (begins_colon ls) _ none.0 (λ next. punctuated next ls none.1)
punctuated after_value (token t ∷ ls) none = placed after_value t (begins_colon ls) _ none.0 (λ next. punctuated next ls none.1)
punctuated after_comma (token t ∷ ls) none = placed after_comma t (begins_colon ls) _ none.0 (λ next. punctuated next ls none.1)
punctuated after_key (token t ∷ ls) none = placed after_key t (begins_colon ls) _ none.0 (λ next. punctuated next ls none.1)
punctuated fresh (comma ∷ ls) none = (refl, tt)
punctuated after_value (comma ∷ ls) none = punctuated after_comma ls none
punctuated after_comma (comma ∷ ls) none = (refl, tt)
punctuated after_key (comma ∷ ls) none = (refl, tt)
punctuated fresh (colon ∷ ls) none = (refl, tt)
punctuated after_value (colon ∷ ls) none = (refl, tt)
punctuated after_comma (colon ∷ ls) none = (refl, tt)
punctuated after_key (colon ∷ ls) none = punctuated fresh ls none

-- ---- the printed form; a number can be any bytes of a word, because a number that is too long cannot be read back

abbrev IsOfWord : List ℕ → Type 0
IsOfWord [] = ⊤
IsOfWord (x ∷ xs) = (class x ≡ other) × IsOfWord xs

abbrev IsReported : Token → Type 0
IsReported (number text) = IsOfWord text
IsReported t = is_e_key t ≡ false

abbrev AreReported : List Token → Type 0
AreReported [] = ⊤
AreReported (t ∷ ts) = IsReported t × AreReported ts

-- after a value there is no byte of a word, and no colon
value_ends : (ts : List Token) → (ends_word (print_from true ts) ≡ true) × (begins_colon (lex between (print_from true ts)) ≡ false)
unfolding print_from lex
value_ends [] = (refl, refl)
value_ends (begin_object ∷ ts) = (refl, refl)
value_ends (end_object ∷ ts) = (refl, refl)
value_ends (begin_array ∷ ts) = (refl, refl)
value_ends (end_array ∷ ts) = (refl, refl)
value_ends (key text ∷ ts) = (refl, refl)
value_ends (string text ∷ ts) = (refl, refl)
value_ends (number text ∷ ts) = (refl, refl)
value_ends (boolean b ∷ ts) = (refl, refl)
value_ends (null ∷ ts) = (refl, refl)
value_ends (bad ∷ ts) = (refl, refl)

chosen : (b : Bool) (t u : Token) → is_e_text t ≡ false → is_e_text u ≡ false → is_e_text (cond b t u) ≡ false
chosen true t u first second = first
chosen false t u first second = second

literal_is_no_text : (name : List ℕ) (t : Token) (bytes : List ℕ) → is_e_text t ≡ false → is_e_text (literal name t bytes) ≡ false
literal_is_no_text name t bytes is = chosen (starts_with nat_eq bytes name && ends_word (drop (length name) bytes)) t bad is refl

number_is_no_text : (bytes : List ℕ) (rest : Option (List ℕ)) → is_e_text (number_before bytes rest) ≡ false
number_is_no_text bytes None = refl
number_is_no_text bytes (Some rest) = chosen (ends_word rest) (number (take (length bytes - length rest) bytes)) bad refl refl

word_is_no_text : (bytes : List ℕ) → is_e_text (word bytes) ≡ false
unfolding word
word_is_no_text bytes =
    let true_word = literal ascii.true_text (boolean true) bytes in
    let false_word = literal ascii.false_text (boolean false) bytes in
    let null_word = literal ascii.null_text null bytes in
    let number_word = number_before bytes (after_number bytes) in
    let from_null = cond (head bytes == ascii.lower_n) null_word number_word in
    let from_false = cond (head bytes == ascii.lower_f) false_word from_null in
    chosen (head bytes == ascii.lower_t) true_word from_false (literal_is_no_text ascii.true_text (boolean true) bytes refl)
    (chosen (head bytes == ascii.lower_f) false_word from_null (literal_is_no_text ascii.false_text (boolean false) bytes refl)
    (chosen (head bytes == ascii.lower_n) null_word number_word (literal_is_no_text ascii.null_text null bytes refl)
    (number_is_no_text bytes (after_number bytes))))

in_word-passed : (text rest : List ℕ) → IsOfWord text → ends_word rest ≡ true → lex in_word (text ++ rest) ≡ lex between rest
unfolding lex
in_word-passed [] rest of_word ended = in_word-ended rest ended
in_word-passed (x ∷ xs) rest of_word ended =
    ap (λ c. lex_byte in_word c x (xs ++ rest) (λ next. lex next (xs ++ rest))) of_word.0 ∙ in_word-passed xs rest of_word.1 ended

word_lexed : (text rest : List ℕ) → IsOfWord text → ends_word rest ≡ true → HaveNoETexts (lex between rest)
    → HaveNoETexts (lex between (text ++ rest))
unfolding lex
word_lexed [] rest of_word ended none = none
word_lexed (x ∷ xs) rest of_word ended none =
    subst HaveNoETexts
    (sym (ap (λ c. lex_byte between c x (xs ++ rest) (λ next. lex next (xs ++ rest))) of_word.0
    ∙ ap (λ ls. token (word (x ∷ (xs ++ rest))) ∷ ls) (in_word-passed xs rest of_word.1 ended)))
    (ap (λ b. b && begins_colon (lex between rest)) (word_is_no_text (x ∷ (xs ++ rest))), none)

quoted_lexed : (text rest : List ℕ) → lex between (quoted text ++ rest) ≡ token (string text) ∷ lex between rest
unfolding lex
quoted_lexed text rest =
    ap (λ l. lex between (34 ∷ l)) (append_assoc (escape text) (34 ∷ []) rest)
    ∙ (λ i. token (string_token (content-escape text rest i)) ∷ lex-escape text rest i)

token_lexed : (t : Token) (rest : List ℕ) → IsReported t → (ends t ≡ true → ends_word rest ≡ true)
    → (ends t ≡ true → begins_colon (lex between rest) ≡ false)
    → HaveNoETexts (lex between rest) → HaveNoETexts (lex between (token_text t ++ rest))
unfolding lex
token_lexed begin_object rest reported word_ends no_colon none = (refl, none)
token_lexed end_object rest reported word_ends no_colon none = (refl, none)
token_lexed begin_array rest reported word_ends no_colon none = (refl, none)
token_lexed end_array rest reported word_ends no_colon none = (refl, none)
token_lexed (key text) rest reported word_ends no_colon none =
    subst HaveNoETexts (sym (ap (lex between) (append_assoc (quoted text) (58 ∷ []) rest) ∙ quoted_lexed text (58 ∷ rest)))
    (ap (λ b. b && true) reported, none)
token_lexed (string text) rest reported word_ends no_colon none =
    subst HaveNoETexts (sym (quoted_lexed text rest))
    (ap (λ b. begins_with_e text && b) (no_colon refl) ∙ and_false (begins_with_e text), none)
token_lexed (number text) rest reported word_ends no_colon none = word_lexed text rest reported (word_ends refl) none
token_lexed (boolean true) rest reported word_ends no_colon none =
    word_lexed (116 ∷ 114 ∷ 117 ∷ 101 ∷ []) rest (refl, (refl, (refl, (refl, tt)))) (word_ends refl) none
token_lexed (boolean false) rest reported word_ends no_colon none =
    word_lexed (102 ∷ 97 ∷ 108 ∷ 115 ∷ 101 ∷ []) rest (refl, (refl, (refl, (refl, (refl, tt))))) (word_ends refl) none
token_lexed null rest reported word_ends no_colon none =
    word_lexed (110 ∷ 117 ∷ 108 ∷ 108 ∷ []) rest (refl, (refl, (refl, (refl, tt)))) (word_ends refl) none
token_lexed bad rest reported word_ends no_colon none = none

separated : (b : Bool) (rest : List ℕ) → HaveNoETexts (lex between rest) → HaveNoETexts (lex between (cond b (44 ∷ []) [] ++ rest))
unfolding lex
separated true rest none = none
separated false rest none = none

printed_lexed : (after : Bool) (ts : List Token) → AreReported ts → HaveNoETexts (lex between (print_from after ts))
unfolding lex print_from
printed_lexed after [] reported = tt
printed_lexed after (t ∷ ts) reported =
    let rest = print_from (ends t) ts in
    separated (after && begins t) _
    (token_lexed t rest reported.0 (λ e. ap (λ b. ends_word (print_from b ts)) e ∙ (value_ends ts).0)
    (λ e. ap (λ b. begins_colon (lex between (print_from b ts))) e ∙ (value_ends ts).1)
    (printed_lexed (ends t) ts reported.1))

-- ---- reading the printed form

abbrev event_key : List ℕ
event_key = codes "event"

other_key : (text : List ℕ) → begins_with_e text ≡ false → event_key ≡ text → ⊥
other_key text none same = true≢false (ap begins_with_e same ∙ none)

abbrev HasNoEvent : Option Data → Type 0
HasNoEvent None = ⊤
HasNoEvent (Some value) = get event_key value ≡ None

members_read : (ms : json.Members) (found : Members) → HaveNoEKeys (members_tokens ms) → get_member event_key found ≡ None
    → HasNoEvent (option_map Data.object (of_members ms found))
members_read json.no_members found none absent = absent
members_read (json.member k j ms) found none absent =
    by_value (of_json j) (λ d.
    members_read ms (put k d found) (no_e-right (json_tokens j) (members_tokens ms) none.1)
    (get_member-put_other event_key k d found (other_key k none.0) ∙ absent))
  where
    by_value : (value : Option Data) → ((d : Data) → HasNoEvent (option_map Data.object (of_members ms (put k d found))))
        → HasNoEvent (option_map Data.object (option_and_then (λ d. of_members ms (put k d found)) value))
    by_value None rest = tt
    by_value (Some d) rest = rest d

json_read : (j : json.Json) → HaveNoEKeys (json_tokens j) → HasNoEvent (of_json j)
json_read json.null none = refl
json_read (json.boolean b) none = refl
json_read (json.number text) none = by_number _
  where
    by_number : (n : Option Num) → HasNoEvent (option_map Data.number n)
    by_number None = tt
    by_number (Some n) = refl
json_read (json.string text) none = refl
json_read (json.array js) none = by_items _
  where
    by_items : (items : Option Items) → HasNoEvent (option_map Data.array items)
    by_items None = tt
    by_items (Some items) = refl
json_read (json.object ms) none = members_read ms no_members none.1 refl

text_read : (text : List ℕ) → HaveNoEKeys (tokens text) → HasNoEvent (read text)
text_read text none = by_value (json.value max_depth (tokens text)) refl
  where
    by_value : (found : Option (json.Json × List Token)) → json.value max_depth (tokens text) ≡ found
        → HasNoEvent (option_and_then of_json (option_and_then (λ p. json.if_last p.0 p.1) found))
    by_value None is = tt
    by_value (Some (j, [])) is =
        json_read j (subst HaveNoEKeys (value-json_tokens_back max_depth (tokens text) [] j is ∙ append-nil (json_tokens j)) none)
    by_value (Some (j, t ∷ ts)) is = tt

value_read : (value : Data) → AreReported (json_tokens (outline value)) → HasNoEvent (read (compact_text value))
value_read value reported =
    text_read (compact_text value)
    (subst (λ (text : List ℕ). HaveNoEKeys (tokens text)) (print-outline value)
    (punctuated fresh (lex between (print (json_tokens (outline value)))) (printed_lexed false (json_tokens (outline value)) reported)))

-- a text in which no event is read means no event
means_none : (line : List ℕ) → HasNoEvent (read line) → is_err (meaning_of line) ≡ true
unfolding meaning_of value_in event_in text_at
means_none line none = by_tests (nat_lt longest_line (length line)) (is_utf8 line) (read line) none
  where
    by_tests : (long utf8 : Bool) (value : Option Data) → HasNoEvent value
        → is_err (if long then Err LineTooLong else ((if utf8 then ok_or value NotJson else Err NotJson) >>= event_in)) ≡ true
    by_tests true utf8 value none = refl
    by_tests false false value none = refl
    by_tests false true None none = refl
    by_tests false true (Some value) none = rw none refl

pub value_is_no_event : (value : Data) (line : List ℕ) → AreReported (json_tokens (outline value))
    → compact_text value ++ 10 ∷ [] ≡ line ++ 10 ∷ [] → is_err (meaning_of line) ≡ true
value_is_no_event value line reported same =
    means_none line (subst (λ (text : List ℕ). HasNoEvent (read text)) (append_cancel_right _ _ (10 ∷ []) same) (value_read value reported))

-- ---- the values of replies

digit_of_word : (d : ℕ) → d < 10 → class (digit_glyph false d) ≡ other
digit_of_word zero below = refl
digit_of_word (suc zero) below = refl
digit_of_word (suc (suc zero)) below = refl
digit_of_word (suc (suc (suc zero))) below = refl
digit_of_word (suc (suc (suc (suc zero)))) below = refl
digit_of_word (suc (suc (suc (suc (suc zero))))) below = refl
digit_of_word (suc (suc (suc (suc (suc (suc zero)))))) below = refl
digit_of_word (suc (suc (suc (suc (suc (suc (suc zero))))))) below = refl
digit_of_word (suc (suc (suc (suc (suc (suc (suc (suc zero)))))))) below = refl
digit_of_word (suc (suc (suc (suc (suc (suc (suc (suc (suc zero))))))))) below = refl
digit_of_word (suc (suc (suc (suc (suc (suc (suc (suc (suc (suc d)))))))))) below = absurd (omega arith)

digits_of_word : (k n : ℕ) (after : List ℕ) → IsOfWord after → IsOfWord (digits_onto k 10 false n after)
digits_of_word zero n after of_word = of_word
digits_of_word (suc k) n after of_word =
    let all : IsOfWord (digit_glyph false (n % 10) ∷ after) = (digit_of_word (n % 10) (omega arith), of_word) in
    by_test (n / 10 == 0) all (digits_of_word k (n / 10) (digit_glyph false (n % 10) ∷ after) all)
  where
    by_test : (last : Bool) → IsOfWord (digit_glyph false (n % 10) ∷ after)
        → IsOfWord (digits_onto k 10 false (n / 10) (digit_glyph false (n % 10) ∷ after))
        → IsOfWord (if last then digit_glyph false (n % 10) ∷ after else digits_onto k 10 false (n / 10) (digit_glyph false (n % 10) ∷ after))
    by_test true one more = one
    by_test false one more = more

decimal_of_word : (n : ℕ) → IsOfWord (decimal n)
unfolding digits
decimal_of_word n = digits_of_word 64 n [] tt

reported-append : (ts us : List Token) → AreReported ts → AreReported us → AreReported (ts ++ us)
reported-append [] us first second = second
reported-append (t ∷ ts) us first second = (first.0, reported-append ts us first.1 second)

offer_reported : (offer : OfferLine) → AreReported (json_tokens (outline (offer_value offer)))
offer_reported offer =
    (refl, (refl, (refl, (refl, (refl, (refl, (decimal_of_word offer.number, (refl, (refl, (refl, (refl, (refl, tt))))))))))))

offers_reported : (offers : List OfferLine) → AreReported (items_tokens (items_outline (items_of (map offer_value offers))))
offers_reported [] = (refl, tt)
offers_reported (offer ∷ offers) =
    reported-append (json_tokens (outline (offer_value offer))) (items_tokens (items_outline (items_of (map offer_value offers))))
    (offer_reported offer) (offers_reported offers)

node_reported : (node : NodeLine) → AreReported (json_tokens (outline (node_value node)))
node_reported node =
    (refl, (refl, (decimal_of_word node.count, (refl, (refl, (refl, (refl, (refl, (refl, (refl, (refl, (refl, tt))))))))))))

nodes_reported : (nodes : List NodeLine) → AreReported (items_tokens (items_outline (items_of (map node_value nodes))))
nodes_reported [] = (refl, tt)
nodes_reported (node ∷ nodes) =
    reported-append (json_tokens (outline (node_value node))) (items_tokens (items_outline (items_of (map node_value nodes))))
    (node_reported node) (nodes_reported nodes)

refused_reported : (name : List ℕ) (reason : ℕ) → AreReported (json_tokens (outline (refused_value name reason)))
refused_reported name reason = (refl, (refl, (refl, (refl, (decimal_of_word reason, (refl, tt))))))

reply_reported : (reply : Reply) → AreReported (json_tokens (outline (reply_value reply)))
reply_reported Done = (refl, (refl, (refl, (refl, tt))))
reply_reported (Offers offers) =
    (refl, (refl, (refl, reported-append (items_tokens (items_outline (items_of (map offer_value offers)))) _ (offers_reported offers) (refl, tt))))
reply_reported (Report report) =
    let total = key (codes "total") ∷ string (amounts_text report.total) ∷ end_object ∷ [] in (
      refl,
      (
        refl,
        (
          refl,
          reported-append (items_tokens (items_outline (items_of (map node_value report.nodes)))) total (nodes_reported report.nodes)
              (refl, (refl, (refl, tt))),
        ),
      ),
    )
reply_reported (Refused refusal) = refused_reported (refusal_name refusal) (refusal_number refusal)

pub replies_no_events : RepliesAreNoEvents
unfolding reply_line
replies_no_events reply line same = value_is_no_event (reply_value reply) line (reply_reported reply) same

pub faults_no_events : FaultsAreNoEvents
unfolding fault_line
faults_no_events fault line same =
    value_is_no_event (refused_value (fault_name fault) (fault_number fault)) line (refused_reported (fault_name fault) (fault_number fault)) same
