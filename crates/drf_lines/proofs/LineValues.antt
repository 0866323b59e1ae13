-- The data that the JSON value of a line represents: when it is read, and what it contains.
use Rattle.std.proofs.Common.{◌≡◌, ℕ, Bool, true, false, cond, ◌&&◌, List, Option, Some, None, option_map, option_and_then, is_some, refl, sym, ap, subst, ◌∙◌}
use Rattle.std.specs.Prelude.{unwrap_or}
use Rattle.std.specs.Str.{bytes_eq}
use Rattle.std.proofs.lemmas.Slice.Eq.{bytes_eq-Decides}
use Rattle.json.specs.Json as json
use Rattle.json.specs.Find as found_in
use Rattle.serde_json.specs.Data.{Num, Data, number, array, object, item, Members, no_members, put}
use Rattle.serde_json.specs.Find.{get, get_member, as_str, as_bool, as_number}
use Rattle.serde_json.specs.Read.{of_json, of_items, of_members, number_of}
use Rattle.serde_json.proofs.Views.{get_member-put, get_member-put_other}
use Rattle.drf_lines.specs.LineValue.{number_in, data_of, items_of, members_of, is_in_range, items_in_range, members_in_range}

-- ---- it is read if its numbers are in range, and otherwise there is none

one_number : (o : Option Num) (other : Num) → option_map number o ≡ cond (is_some o) (Some (number (unwrap_or o other))) None
one_number None other = refl
one_number (Some n) other = refl

mapped : {A B : Type 0} (f : A → B) (b : Bool) (x : A) → option_map f (cond b (Some x) None) ≡ cond b (Some (f x)) None
mapped f true x = refl
mapped f false x = refl

both_read : {A B : Type 0} (next : A → Option B) (b c : Bool) (x : A) (y : B) → next x ≡ cond c (Some y) None
    → option_and_then next (cond b (Some x) None) ≡ cond (b && c) (Some y) None
both_read next true c x y e = e
both_read next false c x y e = refl

mutual
  pub read_in_range : (j : json.Json) → of_json j ≡ cond (is_in_range j) (Some (data_of j)) None
  read_in_range json.null = refl
  read_in_range (json.boolean b) = refl
  read_in_range (json.number text) = one_number (number_of text) _
  read_in_range (json.string text) = refl
  read_in_range (json.array js) = ap (option_map array) (items_read js) ∙ mapped array (items_in_range js) (items_of js)
  read_in_range (json.object ms) =
      ap (option_map object) (members_read ms no_members) ∙ mapped object (members_in_range ms) (members_of ms no_members)

  items_read : (js : json.Items) → of_items js ≡ cond (items_in_range js) (Some (items_of js)) None
  items_read json.no_items = refl
  items_read (json.item j js) =
      ap (option_and_then (λ d. option_map (item d) (of_items js))) (read_in_range j)
      ∙ both_read (λ d. option_map (item d) (of_items js)) (is_in_range j) (items_in_range js) (data_of j) (item (data_of j) (items_of js))
      (ap (option_map (item (data_of j))) (items_read js) ∙ mapped (item (data_of j)) (items_in_range js) (items_of js))

  members_read : (ms : json.Members) (found : Members) → of_members ms found ≡ cond (members_in_range ms) (Some (members_of ms found)) None
  members_read json.no_members found = refl
  members_read (json.member key j ms) found =
      ap (option_and_then (λ d. of_members ms (put key d found))) (read_in_range j)
      ∙ both_read (λ d. of_members ms (put key d found)) (is_in_range j) (members_in_range ms) (data_of j) (members_of ms (put key (data_of j) found))
      (members_read ms (put key (data_of j) found))

-- ---- of equal keys the last one is found

abbrev or_before : Option Data → Option Data → Option Data
or_before None before = before
or_before (Some d) before = Some d

put_at : (b : Bool) (key k : List ℕ) (d : Data) (found : Members) → bytes_eq k key ≡ b
    → get_member key (put k d found) ≡ cond b (Some d) (get_member key found)
put_at true key k d found e =
    subst (λ q. get_member q (put k d found) ≡ Some d) ((bytes_eq-Decides k key).0 e) (get_member-put k d found)
put_at false key k d found e =
    get_member-put_other key k d found (λ (same : key ≡ k). let yes = (bytes_eq-Decides k key).1 (sym same) in cc)

either_last : (later : Option json.Json) (b : Bool) (j : json.Json) (before : Option Data)
    → or_before (option_map data_of later) (cond b (Some (data_of j)) before)
    ≡ or_before (option_map data_of (found_in.later_or later (cond b (Some j) None))) before
either_last None true j before = refl
either_last None false j before = refl
either_last (Some last) b j before = refl

member_found : (key : List ℕ) (ms : json.Members) (found : Members)
    → get_member key (members_of ms found) ≡ or_before (option_map data_of (found_in.get_member key ms)) (get_member key found)
member_found key json.no_members found = refl
member_found key (json.member k j ms) found =
    member_found key ms (put k (data_of j) found)
    ∙ ap (or_before (option_map data_of (found_in.get_member key ms))) (put_at (bytes_eq k key) key k (data_of j) found refl)
    ∙ either_last (found_in.get_member key ms) (bytes_eq k key) j (get_member key found)

none_before : (o : Option Data) → or_before o None ≡ o
none_before None = refl
none_before (Some d) = refl

pub get_seen : (key : List ℕ) (j : json.Json) → get key (data_of j) ≡ option_map data_of (found_in.get key j)
get_seen key json.null = refl
get_seen key (json.boolean b) = refl
get_seen key (json.number text) = refl
get_seen key (json.string text) = refl
get_seen key (json.array js) = refl
get_seen key (json.object ms) = member_found key ms no_members ∙ none_before _

-- ---- what a value is

pub text_seen : (j : json.Json) → as_str (data_of j) ≡ found_in.as_str j
text_seen json.null = refl
text_seen (json.boolean b) = refl
text_seen (json.number text) = refl
text_seen (json.string text) = refl
text_seen (json.array js) = refl
text_seen (json.object ms) = refl

pub number_seen : (j : json.Json) → as_number (data_of j) ≡ option_map number_in (found_in.as_number j)
number_seen json.null = refl
number_seen (json.boolean b) = refl
number_seen (json.number text) = refl
number_seen (json.string text) = refl
number_seen (json.array js) = refl
number_seen (json.object ms) = refl

pub boolean_seen : (j : json.Json) → as_bool (data_of j) ≡ found_in.as_bool j
boolean_seen json.null = refl
boolean_seen (json.boolean b) = refl
boolean_seen (json.number text) = refl
boolean_seen (json.string text) = refl
boolean_seen (json.array js) = refl
boolean_seen (json.object ms) = refl
