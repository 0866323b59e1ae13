-- Lemmas about reading files in order.
use Rattle.std.proofs.Common.{◌≡◌, ℕ, ◌+◌, ◌<◌, List, [], ◌∷◌, ◌++◌, length, map, get_or, take, drop, sym, ap, ◌∙◌, subst, suc, add-one, take-append-drop, refl, arith}
use Rattle.std.proofs.Math.Seq.{take-suc, drop-cons}
use Rattle.std.proofs.lemmas.List.{map-append}
use Rattle.std.specs.Global.{Vec}
use Rattle.drf_journal.specs.declared.fault.RunFault.{RunFault}
use Rattle.drf_journal.specs.declared.fault.RunFault.TheVariants.{Read, Write, Memory}
use Rattle.drf_journal.specs.Files.{Known, IsFileFault, MayHave}
use Rattle.drf_drive.specs.Files.{AreContents, IsUnread, bytes_of, fault_of}

-- ---- a list up to an element

module _ {X : Type 0} (xs : List X) (i : ℕ) (x : X) (inside : i < length xs) (is : x ≡ get_or xs i x) where
  pub take-next : take (i + 1) xs ≡ take i xs ++ x ∷ []
  take-next = ap (λ (n : ℕ). take n xs) (add-one i) ∙ take-suc xs i x inside ∙ ap (λ (y : X). take i xs ++ y ∷ []) (sym is)

  pub cut-next : xs ≡ take i xs ++ x ∷ drop (i + 1) xs
  cut-next =
      sym (take-append-drop i xs)
      ∙ ap (λ l. take i xs ++ l) (drop-cons xs i x inside ∙ ap (λ (y : X). y ∷ drop (suc i) xs) (sym is)
      ∙ ap (λ (n : ℕ). x ∷ drop n xs) (sym (add-one i)))

  module _ {Y : Type 0} (f : X → Y) where
    pub map-take-next : map f (take (i + 1) xs) ≡ map f (take i xs) ++ f x ∷ []
    map-take-next = ap (map f) take-next ∙ map-append f (take i xs) (x ∷ [])

    pub map-cut-next : map f xs ≡ map f (take i xs) ++ f x ∷ map f (drop (i + 1) xs)
    map-cut-next = ap (map f) cut-next ∙ map-append f (take i xs) (x ∷ drop (i + 1) xs)

-- ---- the bytes of files

contents-push : (known : Known) (names : List (List ℕ)) (contents : List (List ℕ)) (name bytes : List ℕ)
    → AreContents known names contents → MayHave (known name) bytes
    → AreContents known (names ++ name ∷ []) (contents ++ bytes ∷ [])
contents-push known [] [] name bytes are is = (is, tt)
contents-push known [] (c ∷ contents) name bytes are is = absurd are
contents-push known (n ∷ names) [] name bytes are is = absurd are
contents-push known (n ∷ names) (c ∷ contents) name bytes are is = (are.0, contents-push known names contents name bytes are.1 is)

pub contents-count : (known : Known) (names contents : List (List ℕ)) → AreContents known names contents → length contents ≡ length names
contents-count known [] [] are = refl
contents-count known [] (c ∷ contents) are = absurd are
contents-count known (n ∷ names) [] are = absurd are
contents-count known (n ∷ names) (c ∷ contents) are = let same = contents-count known names contents are.1 in omega arith

-- after one more file was read
pub contents-next : {X : Type 0} (text : X → List ℕ) (known : Known) (xs : List X) (i : ℕ) (x : X) → i < length xs → x ≡ get_or xs i x
    → (contents : List (Vec ℕ)) (bytes : Vec ℕ) → AreContents known (map text (take i xs)) (bytes_of contents)
    → MayHave (known (text x)) bytes.items
    → AreContents known (map text (take (i + 1) xs)) (bytes_of (contents ++ bytes ∷ []))
contents-next text known xs i x inside is contents bytes are one =
    let added : bytes_of (contents ++ bytes ∷ []) ≡ bytes_of contents ++ bytes.items ∷ [] =
    map-append (λ (v : Vec ℕ). v.items) contents (bytes ∷ []) in
    subst (λ (l : List (List ℕ)). AreContents known l (bytes_of (contents ++ bytes ∷ []))) (sym (map-take-next xs i x inside is text))
    (subst (AreContents known (map text (take i xs) ++ text x ∷ [])) (sym added)
    (contents-push known (map text (take i xs)) (bytes_of contents) (text x) bytes.items are one))

-- after a file could not be read
pub contents-fault : {X : Type 0} (text : X → List ℕ) (known : Known) (xs : List X) (i : ℕ) (x : X) → i < length xs → x ≡ get_or xs i x
    → (contents : List (List ℕ)) → AreContents known (map text (take i xs)) contents
    → (fault : RunFault) → IsFileFault (known (text x)) fault → IsUnread known (map text xs) (fault_of (length contents) fault)
contents-fault text known xs i x inside is contents are Read none = record {
  before = map text (take i xs);
  name = text x;
  after = map text (drop (i + 1) xs);
  one = map-cut-next xs i x inside is text;
  place = contents-count known (map text (take i xs)) contents are;
  contents = contents;
  read = are;
  unread = none;
}
contents-fault text known xs i x inside is contents are Write none = none
contents-fault text known xs i x inside is contents are Memory none = tt
