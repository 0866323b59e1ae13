use Rattle.std.specs.Option.{option_map_or}
use Rattle.std.proofs.Common.{ap, arith, refl, subst, sym, ◌∙◌, ◌≡◌, ◌<◌, ◌-◌, ◌∷◌, ◌++◌, [], ℕ, List, Option, None, Some, length, option_copied, slice_get, slice_index_or, suc, take}
use Rattle.std.proofs.lemmas.List.{drop_all, nil_from_length}
use Rattle.std.proofs.lemmas.Option.{same_Some, slice_get_read}
use Rattle.drf_tree.proofs.Names.{Path, Content, Family, Place, Tree, Frame, IsShapeOf, numbers_of, client_at, path_at, place_at, AreFrames, IsAtClient, IsSettled, frames_queue, IsTreeOf}
use Rattle.drf_row_laws.proofs.ReleaseLaws.{split_at}
use Rattle.drf_tree.proofs.shape.Node.{read_at}
use Rattle.drf_tree.proofs.walk.Step.{first_is, frames_last, nobody_left, settled_last}
use Rattle.drf_tree.proofs.walk.Walk.first.Goals as goal

-- a list and its last element
last_apart : {X : Type 0} (xs : List X) (x : X) → 0 < length xs → x ≡ slice_index_or xs (length xs - 1) x
    → xs ≡ take (length xs - 1) xs ++ x ∷ []
last_apart xs x some at =
    split_at xs (length xs - 1) x (slice_get_read xs (length xs) (length xs - 1) x refl (omega (arith, some)) at)
    ∙ ap (λ (ys : List _). take (length xs - 1) xs ++ x ∷ ys) (drop_all (suc (length xs - 1)) xs (omega arith))

-- reading at the last frame of a walk that is at a client
module _ (tree : Tree) (shape : IsShapeOf tree) (frames : List Frame) (are : AreFrames tree.places.items frames)
    (f : Frame) (some : 0 < length frames) (at : f ≡ slice_index_or frames (length frames - 1) f)
    (family : Family) (read : family ≡ slice_index_or tree.families.items f.node family)
    (content : Content) (of : IsTreeOf content tree)
    (settled : IsSettled content tree.places.items tree.families.items frames) where
  abbrev prefix : List Frame
  prefix = take (length frames - 1) frames

  apart : frames ≡ prefix ++ f ∷ []
  apart = last_apart frames f some at

  all : AreFrames tree.places.items (prefix ++ f ∷ [])
  all = subst (AreFrames tree.places.items) apart are

  stands : IsSettled content tree.places.items tree.families.items (prefix ++ f ∷ [])
  stands = subst (IsSettled content tree.places.items tree.families.items) apart settled

  abbrev client : IsAtClient content tree.places.items tree.families.items f
  client = settled_last content tree.places.items tree.families.items prefix f stands

  head : slice_get (frames_queue content tree frames) 0 ≡ Some (path_at tree.places.items client.node)
  head = ap (λ (fs : List Frame). slice_get (frames_queue content tree fs) 0) apart ∙ first_is tree shape prefix f all content of stands

  number : (o : Option ℕ) → o ≡ slice_get (numbers_of family.children.items) f.next → o ≡ Some client.node
  number o is =
      sym (read_at tree shape f.node f.next family (frames_last tree.places.items prefix f all).node read o is) ∙ client.next

  -- the client at the position that was read
  shown : (i : ℕ) → Some i ≡ slice_get (numbers_of family.children.items) f.next → (o : Option Place)
      → o ≡ place_at tree.places.items i
      → option_map_or (λ p. p.client) o None ≡ slice_get (frames_queue content tree frames) 0
  shown i is o place =
      let same : i ≡ client.node = same_Some i client.node (number (Some i) is) in
      ap (λ (q : Option Place). option_map_or (λ p. p.client) q None) place
      ∙ ap (client_at tree.places.items) same ∙ client.client ∙ sym head

pub returns-in_err-frame : goal.returns-in_err-frame
returns-in_err-frame c content of settled =
    let tree = c.args.tree.now in
    let frames = c.args.self.now.frames.items in
    let item = rw c.deref.ensures.value at c.in_err-frame.ensures.item in
    let none : frames ≡ [] = nil_from_length frames (omega (arith, item.3)) in
    ap option_copied c.from_residual.ensures
    ∙ ap (λ (ps : List Path). slice_get ps 0) (sym (ap (frames_queue content tree) none ∙ nobody_left content tree))

pub returns-in_err-node : goal.returns-in_err-node
returns-in_err-node c content of settled =
    let item = rw c.deref.ensures.value at c.in_ok-frame.ensures.item in
    let found =
    number c.args.tree.now c.requires.shape c.args.self.now.frames.items c.requires.frames c.in_ok-frame.frame.now item.3.0
    item.1 c.index.result.now c.index.ensures content of settled None c.in_err-node.ensures in
    absurd cc

pub returns-in_err-place : goal.returns-in_err-place
returns-in_err-place c content of settled =
    let item = rw c.deref.ensures.value at c.in_ok-frame.ensures.item in
    ap option_copied c.from_residual-in_err-place.ensures
    ∙ shown c.args.tree.now c.requires.shape c.args.self.now.frames.items c.requires.frames c.in_ok-frame.frame.now item.3.0
    item.1 c.index.result.now c.index.ensures content of settled c.in_ok-node.node c.in_ok-node.ensures None
    c.in_err-place.ensures

pub returns : goal.returns
returns c content of settled =
    let item = rw c.deref.ensures.value at c.in_ok-frame.ensures.item in
    c.as_ref.ensures.value
    ∙ shown c.args.tree.now c.requires.shape c.args.self.now.frames.items c.requires.frames c.in_ok-frame.frame.now item.3.0
    item.1 c.index.result.now c.index.ensures content of settled c.in_ok-node.node c.in_ok-node.ensures
    (Some c.in_ok-place.field-0.now) c.in_ok-place.ensures
