-- The histories of all boards, in one log: each history is a chain of links.
-- A chain is named by the key of a word. The owner of that word's pen can add the first link, and the owner of the pen of the word that a link
-- names can add the next link. After that the word is at home, which means that no pen can write to it. So a pen adds only one link.
use Rattle.std.specs.Prelude.{ℕ, ◌≡◌, ◌==◌, ◌<◌, true, List, [], ◌∷◌, ◌++◌, length, map, filter}
use Rattle.std.specs.List.{AllByRecursion}
use Rattle.logbook.specs.Pages.{Cell, cell, Step, View, Book, Named, Nib, may_make, may_write}
use Rattle.drf_rows.specs.declared.event.Event.TheVariants as event
use Rattle.drf_rows.specs.declared.reply.Reply.TheVariants.{Done}
use Rattle.drf_board.specs.declared.entry.Entry.{Entry}
use Rattle.drf_board.specs.declared.history.Link.{Link}

-- the links of a chain, in order
abbrev pub links_of : ℕ → List Link → List Link
links_of chain log = filter (λ link. link.chain == chain) log

-- the entries of a chain, in order
abbrev pub entries_of : ℕ → List Link → List Entry
entries_of chain log = map (λ link. link.entry) (links_of chain log)

-- the words whose pens have added these links
abbrev pub spent_by : ℕ → List Link → List ℕ
spent_by word [] = []
spent_by word (link ∷ links) = word ∷ spent_by link.next links

-- the word whose pen can add the link after these
abbrev pub end_from : ℕ → List Link → ℕ
end_from word [] = word
end_from word (link ∷ links) = end_from link.next links

-- the word whose pen can add the next link of a chain
abbrev pub end_of : ℕ → List Link → ℕ
end_of chain log = end_from chain (links_of chain log)

-- the word with this key is at home
abbrev pub IsHome : List Cell → ℕ → Type 0
IsHome cells key = (cell cells key).1 ≡ true

-- each word whose pen has added a link is at home, and so is the first word, which each step passes
pub record IsChained (cells : List Cell) (log : List Link) : Type 0 where
  pub first : (0 < length cells) × IsHome cells 0
  pub spent : (chain : ℕ) → AllByRecursion (IsHome cells) (spent_by chain (links_of chain log))

-- the first word of a book
abbrev pub head_of : Book → Named
head_of book = record { tracked = true; key = 0; book = book }

-- a step that adds a link to its chain, and nothing else
pub record HasLinked (step : Step Link) (before : View Link ℕ) (found : ℕ) (after : View Link ℕ) : Type 0 where
  pub entries : entries_of step.ask.chain after.0 ≡ entries_of step.ask.chain before.0 ++ step.ask.entry ∷ []
  pub end : end_of step.ask.chain after.0 ≡ step.ask.next

-- a step that adds nothing: as many links of the chain were seen as expected, and the pen is unchanged
pub record HasLooked (step : Step Link) (before : View Link ℕ) (found : ℕ) (after : View Link ℕ) : Type 0 where
  pub count : length (links_of step.ask.chain before.0) ≡ step.ask.next
  pub pen : after.1.0 ≡ before.1.0

-- a step that gives the right to make a word
abbrev pub HasNewPen : Step Link → View Link ℕ → ℕ → View Link ℕ → Type 0
HasNewPen step before found after = after.1.0.right ≡ may_make

-- a link of a chain, with the key of the next word and an entry
abbrev pub link_of : ℕ → ℕ → Entry → Link
link_of chain next entry = record { chain = chain; next = next; entry = entry }

-- the request of a step that adds nothing, and expects `count` links of a chain
abbrev pub look_of : ℕ → ℕ → Link
look_of chain count = link_of chain count (record { event = event.Report; reply = Done })

-- the request of a step that is about no chain
abbrev pub no_link : Link
no_link = look_of 0 0

-- the word with this key
abbrev pub word_of : Book → ℕ → Named
word_of book key = record { tracked = true; key = key; book = book }

-- a pen that can write to the word at the end of what was seen of a chain
pub record IsAtEnd (home : Book) (chain : ℕ) (log : List Link) (pen_book : Book) (nib : Nib) : Type 0 where
  pub book : pen_book ≡ home
  pub right : nib.right ≡ may_write
  pub key : nib.key ≡ end_of chain log
