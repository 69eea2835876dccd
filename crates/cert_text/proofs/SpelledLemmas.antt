-- Lines: what is spelled so is read.
use Rattle.std.proofs.Common.{◌≡◌, ℕ, Bool, true, false, List, [], ◌∷◌, ◌++◌, Option, Some, None}
use Rattle.std.proofs.Common.{refl, sym, ap, ◌∙◌, codes}
use Rattle.std.specs.List.{AllByRecursion}
use Rattle.std.specs.Option.{option_map}
use Rattle.cert_text.specs.declared.line.Way.{Way}
use Rattle.cert_text.specs.declared.line.Way.TheVariants as way
use Rattle.cert_text.specs.declared.line.Target.{Target}
use Rattle.cert_text.specs.declared.line.Target.TheVariants as target
use Rattle.cert_text.specs.declared.line.Line.{Line}
use Rattle.cert_text.specs.declared.line.Line.TheVariants as line
use Rattle.cert_text.specs.Spelling.{number_text, way_text, target_text, bit_text, joined, word_of}
use Rattle.cert_text.specs.Spelling.{fields_of, line_text, IsNumber, AreNumbers, IsTarget, IsLine}
use Rattle.cert_text.specs.Reading.{◌>>=◌, number_next, way_next, target_next, bit_next, numbers_of, certificate_line, triple_line, section_line}
use Rattle.cert_text.specs.Reading.{and_line, ex_line, space_line, left_line, right_line, node_line, root_line, accept_line, pair_line, start_line}
use Rattle.cert_text.specs.Reading.{settle_line, set_line, heading_line, step_line, table_line, listing_line, line_of, line_at}
use Rattle.cert_text.proofs.WordsLemmas.{lacks, lacks-append, is_break, cut_word-word, cut_line-line}
use Rattle.cert_text.proofs.NumbersLemmas.{decimal-lacks}
use Rattle.cert_text.proofs.FieldsLemmas.{number-reads, way-reads, bit-reads}
use Rattle.cert_text.proofs.FieldsLemmas.{target-reads, numbers-break, numbers-read}
use Rattle.cert_text.proofs.LinesLemmas.{fields_text, spelled-apart}
use Rattle.cert_text.proofs.FieldsLemmas.{numbers_text}

-- ---- what is spelled so is read

then-number : (n : ℕ) (rest : List ℕ) (f : ℕ × List ℕ → Option Line) → IsNumber n → is_break rest ≡ true →
    number_next (number_text n ++ rest) >>= f ≡ f (n, rest)
then-number n rest f is break = ap (λ o. o >>= f) (number-reads n rest is break)

then-target : (t : Target) (rest : List ℕ) (f : Target × List ℕ → Option Line) → IsTarget t → is_break rest ≡ true →
    target_next (target_text t ++ rest) >>= f ≡ f (t, rest)
then-target t rest f is break = ap (λ o. o >>= f) (target-reads t rest is break)

then-way : (w : Way) (rest : List ℕ) (f : Way × List ℕ → Option Line) → is_break rest ≡ true → way_next (way_text w ++ rest) >>= f ≡ f (w, rest)
then-way w rest f break = ap (λ o. o >>= f) (way-reads w rest break)

then-bit : (b : Bool) (rest : List ℕ) (f : Bool × List ℕ → Option Line) → is_break rest ≡ true → bit_next (bit_text b ++ rest) >>= f ≡ f (b, rest)
then-bit b rest f break = ap (λ o. o >>= f) (bit-reads b rest break)

all-numbers : (ns : List ℕ) (f : List ℕ → Option Line) → AreNumbers ns → numbers_of (numbers_text ns) >>= f ≡ f ns
all-numbers ns f is = ap (λ o. o >>= f) (numbers-read ns is)

break-target : (t : Target) (rest : List ℕ) → is_break (target_text t ++ rest) ≡ true
break-target (target.State q) rest = refl
break-target (target.Node n) rest = refl

break-bit : (b : Bool) (rest : List ℕ) → is_break (bit_text b ++ rest) ≡ true
break-bit true rest = refl
break-bit false rest = refl

break-way : (w : Way) (rest : List ℕ) → is_break (way_text w ++ rest) ≡ true
break-way way.Easier rest = refl
break-way way.Whole rest = refl

triple-read : (v_k : ℕ) → IsNumber v_k →
    triple_line (number_text v_k ++ ([])) ≡ Some (line.Triple v_k)
unfolding triple_line
triple-read v_k is_k =
    then-number v_k ([]) _ is_k refl

section-read : (v_way : Way) (v_parts : ℕ) → IsNumber v_parts →
    section_line (way_text v_way ++ (number_text v_parts ++ ([]))) ≡ Some (line.Section (record { way = v_way; parts = v_parts }))
unfolding section_line
section-read v_way v_parts is_parts =
    then-way v_way (number_text v_parts ++ ([])) _ refl
    ∙ then-number v_parts ([]) _ is_parts refl

and-read : (v_k : ℕ) → IsNumber v_k →
    and_line (number_text v_k ++ ([])) ≡ Some (line.And v_k)
unfolding and_line
and-read v_k is_k =
    then-number v_k ([]) _ is_k refl

ex-read : (v_k : ℕ) → IsNumber v_k →
    ex_line (number_text v_k ++ ([])) ≡ Some (line.Ex v_k)
unfolding ex_line
ex-read v_k is_k =
    then-number v_k ([]) _ is_k refl

space-read : (v_space : ℕ) (v_states : ℕ) (v_initial : ℕ) → IsNumber v_space → IsNumber v_states → IsNumber v_initial →
    space_line (number_text v_space ++ (number_text v_states ++ (number_text v_initial ++ ([])))) ≡ Some (line.Space
    (record { space = v_space; states = v_states; initial = v_initial }))
unfolding space_line
space-read v_space v_states v_initial is_space is_states is_initial =
    then-number v_space (number_text v_states ++ (number_text v_initial ++ ([]))) _ is_space refl
    ∙ then-number v_states (number_text v_initial ++ ([])) _ is_states refl
    ∙ then-number v_initial ([]) _ is_initial refl

left-read : (v_space : ℕ) (v_classes : List ℕ) → IsNumber v_space → AreNumbers v_classes →
    left_line (number_text v_space ++ (numbers_text v_classes)) ≡ Some (line.Left (record { space = v_space; classes = v_classes }))
unfolding left_line
left-read v_space v_classes is_space is_classes =
    then-number v_space (numbers_text v_classes) _ is_space (numbers-break v_classes)
    ∙ all-numbers v_classes _ is_classes

right-read : (v_space : ℕ) (v_classes : List ℕ) → IsNumber v_space → AreNumbers v_classes →
    right_line (number_text v_space ++ (numbers_text v_classes)) ≡ Some (line.Right (record { space = v_space; classes = v_classes }))
unfolding right_line
right-read v_space v_classes is_space is_classes =
    then-number v_space (numbers_text v_classes) _ is_space (numbers-break v_classes)
    ∙ all-numbers v_classes _ is_classes

node-read : (v_node : ℕ) (v_track : ℕ) (v_low : Target) (v_high : Target) → IsNumber v_node → IsNumber v_track → IsTarget v_low → IsTarget v_high →
    node_line (number_text v_node ++ (number_text v_track ++ (target_text v_low ++ (target_text v_high ++ ([]))))) ≡ Some (line.Node
    (record { node = v_node; track = v_track; low = v_low; high = v_high }))
unfolding node_line
node-read v_node v_track v_low v_high is_node is_track is_low is_high =
    then-number v_node (number_text v_track ++ (target_text v_low ++ (target_text v_high ++ ([])))) _ is_node refl
    ∙ then-number v_track (target_text v_low ++ (target_text v_high ++ ([]))) _ is_track (break-target v_low (target_text v_high ++ ([])))
    ∙ then-target v_low (target_text v_high ++ ([])) _ is_low (break-target v_high ([]))
    ∙ then-target v_high ([]) _ is_high refl

root-read : (v_space : ℕ) (v_left : ℕ) (v_right : ℕ) (v_target : Target) → IsNumber v_space → IsNumber v_left → IsNumber v_right → IsTarget v_target →
    root_line (number_text v_space ++ (number_text v_left ++ (number_text v_right ++ (target_text v_target ++ ([]))))) ≡ Some (line.Root
    (record { space = v_space; left = v_left; right = v_right; target = v_target }))
unfolding root_line
root-read v_space v_left v_right v_target is_space is_left is_right is_target =
    then-number v_space (number_text v_left ++ (number_text v_right ++ (target_text v_target ++ ([])))) _ is_space refl
    ∙ then-number v_left (number_text v_right ++ (target_text v_target ++ ([]))) _ is_left refl
    ∙ then-number v_right (target_text v_target ++ ([])) _ is_right (break-target v_target ([]))
    ∙ then-target v_target ([]) _ is_target refl

pair-read : (v_space : ℕ) (v_first : ℕ) (v_second : ℕ) (v_state : ℕ) → IsNumber v_space → IsNumber v_first → IsNumber v_second → IsNumber v_state →
    pair_line (number_text v_space ++ (number_text v_first ++ (number_text v_second ++ (number_text v_state ++ ([]))))) ≡ Some (line.Pair
    (record { space = v_space; first = v_first; second = v_second; state = v_state }))
unfolding pair_line
pair-read v_space v_first v_second v_state is_space is_first is_second is_state =
    then-number v_space (number_text v_first ++ (number_text v_second ++ (number_text v_state ++ ([])))) _ is_space refl
    ∙ then-number v_first (number_text v_second ++ (number_text v_state ++ ([]))) _ is_first refl
    ∙ then-number v_second (number_text v_state ++ ([])) _ is_second refl
    ∙ then-number v_state ([]) _ is_state refl

start-read : (v_space : ℕ) (v_state : ℕ) → IsNumber v_space → IsNumber v_state →
    start_line (number_text v_space ++ (number_text v_state ++ ([]))) ≡ Some (line.Start (record { space = v_space; state = v_state }))
unfolding start_line
start-read v_space v_state is_space is_state =
    then-number v_space (number_text v_state ++ ([])) _ is_space refl
    ∙ then-number v_state ([]) _ is_state refl

settle-read : (v_space : ℕ) (v_state : ℕ) (v_left : ℕ) (v_right : ℕ) (v_has_bound : Bool) → IsNumber v_space → IsNumber v_state → IsNumber v_left →
    IsNumber v_right →
    settle_line (number_text v_space ++ (number_text v_state ++ (number_text v_left ++ (number_text v_right ++ (bit_text v_has_bound ++ ([])))))) ≡ Some
    (line.Settle (record { space = v_space; state = v_state; left = v_left; right = v_right; has_bound = v_has_bound }))
unfolding settle_line
settle-read v_space v_state v_left v_right v_has_bound is_space is_state is_left is_right =
    then-number v_space (number_text v_state ++ (number_text v_left ++ (number_text v_right ++ (bit_text v_has_bound ++ ([]))))) _ is_space refl
    ∙ then-number v_state (number_text v_left ++ (number_text v_right ++ (bit_text v_has_bound ++ ([])))) _ is_state refl
    ∙ then-number v_left (number_text v_right ++ (bit_text v_has_bound ++ ([]))) _ is_left refl
    ∙ then-number v_right (bit_text v_has_bound ++ ([])) _ is_right (break-bit v_has_bound ([]))
    ∙ then-bit v_has_bound ([]) _ refl

set-read : (v_space : ℕ) (v_state : ℕ) (v_members : List ℕ) → IsNumber v_space → IsNumber v_state → AreNumbers v_members →
    set_line (number_text v_space ++ (number_text v_state ++ (numbers_text v_members))) ≡ Some (line.Set
    (record { space = v_space; state = v_state; members = v_members }))
unfolding set_line
set-read v_space v_state v_members is_space is_state is_members =
    then-number v_space (number_text v_state ++ (numbers_text v_members)) _ is_space refl
    ∙ then-number v_state (numbers_text v_members) _ is_state (numbers-break v_members)
    ∙ all-numbers v_members _ is_members

accept-read : (qs : List ℕ) → AreNumbers qs → accept_line (numbers_text qs) ≡ Some (line.Accept qs)
unfolding accept_line
accept-read qs is = ap (option_map line.Accept) (numbers-read qs is)

by_word : (w bytes : List ℕ) → lacks 32 w ≡ true → is_break bytes ≡ true → line_of (w ++ bytes) ≡ listing_line w bytes
unfolding line_of
by_word w bytes word break = ap (λ (cut : List ℕ × List ℕ). listing_line cut.0 cut.1) (cut_word-word w bytes word break)

line-read : (l : Line) → IsLine l → line_of (word_of l ++ fields_text l) ≡ Some l
unfolding listing_line table_line step_line heading_line certificate_line
line-read line.Certificate is = by_word (codes "pale-certificate") (codes " 1") refl refl
line-read line.Program is = by_word (codes "program") [] refl refl
line-read line.End is = by_word (codes "end") [] refl refl
line-read (line.Accept qs) is = by_word (codes "accept") (numbers_text qs) refl (numbers-break qs) ∙ accept-read qs is
line-read (line.Triple l) is =
    by_word (codes "triple") (number_text l ++ ([])) refl refl
    ∙ triple-read l is
line-read (line.Section l) is =
    by_word (codes "section") (way_text l.way ++ (number_text l.parts ++ ([]))) refl (break-way l.way (number_text l.parts ++ ([])))
    ∙ section-read l.way l.parts is
line-read (line.And l) is =
    by_word (codes "and") (number_text l ++ ([])) refl refl
    ∙ and-read l is
line-read (line.Ex l) is =
    by_word (codes "ex") (number_text l ++ ([])) refl refl
    ∙ ex-read l is
line-read (line.Space l) is =
    by_word (codes "space") (number_text l.space ++ (number_text l.states ++ (number_text l.initial ++ ([])))) refl refl
    ∙ space-read l.space l.states l.initial is.0 is.1 is.2
line-read (line.Left l) is =
    by_word (codes "left") (number_text l.space ++ (numbers_text l.classes)) refl refl
    ∙ left-read l.space l.classes is.0 is.1
line-read (line.Right l) is =
    by_word (codes "right") (number_text l.space ++ (numbers_text l.classes)) refl refl
    ∙ right-read l.space l.classes is.0 is.1
line-read (line.Node l) is =
    by_word (codes "node") (number_text l.node ++ (number_text l.track ++ (target_text l.low ++ (target_text l.high ++ ([]))))) refl refl
    ∙ node-read l.node l.track l.low l.high is.0 is.1 is.2 is.3
line-read (line.Root l) is =
    by_word (codes "root") (number_text l.space ++ (number_text l.left ++ (number_text l.right ++ (target_text l.target ++ ([]))))) refl refl
    ∙ root-read l.space l.left l.right l.target is.0 is.1 is.2 is.3
line-read (line.Pair l) is =
    by_word (codes "pair") (number_text l.space ++ (number_text l.first ++ (number_text l.second ++ (number_text l.state ++ ([]))))) refl refl
    ∙ pair-read l.space l.first l.second l.state is.0 is.1 is.2 is.3
line-read (line.Start l) is =
    by_word (codes "init") (number_text l.space ++ (number_text l.state ++ ([]))) refl refl
    ∙ start-read l.space l.state is.0 is.1
line-read (line.Settle l) is =
    by_word (codes "settle") (number_text l.space ++ (number_text l.state ++ (number_text l.left ++ (number_text l.right ++ (bit_text l.has_bound ++
    ([])))))) refl refl
    ∙ settle-read l.space l.state l.left l.right l.has_bound is.0 is.1 is.2 is.3
line-read (line.Set l) is =
    by_word (codes "set") (number_text l.space ++ (number_text l.state ++ (numbers_text l.members))) refl refl
    ∙ set-read l.space l.state l.members is.0 is.1 is.2

-- ---- no line has an LF but its last byte

number-lacks : (n : ℕ) → IsNumber n → lacks 10 (number_text n) ≡ true
number-lacks n is = decimal-lacks 10 n refl is

numbers-lack : (ns : List ℕ) → AreNumbers ns → lacks 10 (numbers_text ns) ≡ true
numbers-lack [] is = refl
numbers-lack (n ∷ ns) is = lacks-append 10 (number_text n) (numbers_text ns) (number-lacks n is.0) (numbers-lack ns is.1)

target-lacks : (t : Target) → IsTarget t → lacks 10 (target_text t) ≡ true
target-lacks (target.State q) is = decimal-lacks 10 q refl is
target-lacks (target.Node n) is = decimal-lacks 10 n refl is

way-lacks : (w : Way) → lacks 10 (way_text w) ≡ true
way-lacks way.Easier = refl
way-lacks way.Whole = refl

bit-lacks : (b : Bool) → lacks 10 (bit_text b) ≡ true
bit-lacks true = refl
bit-lacks false = refl

-- texts without an LF, one after the other
texts-lack : (texts : List (List ℕ)) → AllByRecursion (λ text. lacks 10 text ≡ true) texts → lacks 10 (joined texts) ≡ true
texts-lack [] all = refl
texts-lack (text ∷ texts) all = lacks-append 10 text (joined texts) all.0 (texts-lack texts all.1)

fields-lack : (l : Line) → IsLine l → lacks 10 (fields_text l) ≡ true
fields-lack line.Certificate is = refl
fields-lack line.Program is = refl
fields-lack line.End is = refl
fields-lack (line.Accept qs) is = numbers-lack qs is
fields-lack (line.Triple l) is = texts-lack (fields_of (line.Triple l)) (number-lacks l is, tt)
fields-lack (line.Section l) is = texts-lack (fields_of (line.Section l)) (way-lacks l.way, (number-lacks l.parts is, tt))
fields-lack (line.And l) is = texts-lack (fields_of (line.And l)) (number-lacks l is, tt)
fields-lack (line.Ex l) is = texts-lack (fields_of (line.Ex l)) (number-lacks l is, tt)
fields-lack (line.Space l) is = texts-lack (fields_of (line.Space l)) (
  number-lacks l.space is.0,
  (
    number-lacks l.states is.1,
    (number-lacks l.initial is.2, tt),
  ),
)
fields-lack (line.Left l) is =
    lacks-append 10 (number_text l.space) (numbers_text l.classes) (number-lacks l.space is.0) (numbers-lack l.classes is.1)
fields-lack (line.Right l) is =
    lacks-append 10 (number_text l.space) (numbers_text l.classes) (number-lacks l.space is.0) (numbers-lack l.classes is.1)
fields-lack (line.Node l) is = texts-lack (fields_of (line.Node l)) (
  number-lacks l.node is.0,
  (
    number-lacks l.track is.1,
    (
      target-lacks l.low is.2,
      (target-lacks l.high is.3, tt),
    ),
  ),
)
fields-lack (line.Root l) is = texts-lack (fields_of (line.Root l)) (
  number-lacks l.space is.0,
  (
    number-lacks l.left is.1,
    (
      number-lacks l.right is.2,
      (target-lacks l.target is.3, tt),
    ),
  ),
)
fields-lack (line.Pair l) is = texts-lack (fields_of (line.Pair l)) (
  number-lacks l.space is.0,
  (
    number-lacks l.first is.1,
    (
      number-lacks l.second is.2,
      (number-lacks l.state is.3, tt),
    ),
  ),
)
fields-lack (line.Start l) is = texts-lack (fields_of (line.Start l)) (number-lacks l.space is.0, (number-lacks l.state is.1, tt))
fields-lack (line.Settle l) is = texts-lack (fields_of (line.Settle l)) (
  number-lacks l.space is.0,
  (
    number-lacks l.state is.1,
    (
      number-lacks l.left is.2,
      (number-lacks l.right is.3, (bit-lacks l.has_bound, tt)),
    ),
  ),
)
fields-lack (line.Set l) is =
    lacks-append 10 (number_text l.space) (number_text l.state ++ (numbers_text l.members)) (number-lacks l.space is.0) (lacks-append 10
    (number_text l.state) (numbers_text l.members) (number-lacks l.state is.1) (numbers-lack l.members is.2))

word-lacks : (l : Line) → lacks 10 (word_of l) ≡ true
word-lacks line.Certificate = refl
word-lacks line.Program = refl
word-lacks line.End = refl
word-lacks (line.Accept qs) = refl
word-lacks (line.Triple l) = refl
word-lacks (line.Section l) = refl
word-lacks (line.And l) = refl
word-lacks (line.Ex l) = refl
word-lacks (line.Space l) = refl
word-lacks (line.Left l) = refl
word-lacks (line.Right l) = refl
word-lacks (line.Node l) = refl
word-lacks (line.Root l) = refl
word-lacks (line.Pair l) = refl
word-lacks (line.Start l) = refl
word-lacks (line.Settle l) = refl
word-lacks (line.Set l) = refl

pub line_at-reads : (l : Line) (rest : List ℕ) → IsLine l → line_at (line_text l ++ rest) ≡ Some (l, rest)
unfolding line_at
line_at-reads l rest is =
    ap line_at (spelled-apart l rest)
    ∙ ap (λ o. o >>= (λ c. line_of c.0 >>= (λ m. Some (m, c.1))))
    (cut_line-line (word_of l ++ fields_text l) rest (lacks-append 10 (word_of l) (fields_text l) (word-lacks l) (fields-lack l is)))
    ∙ ap (λ o. o >>= (λ m. Some (m, rest))) (line-read l is)

-- a text begins with one line
pub read-once : (text : List ℕ) (x : Line × List ℕ) → line_at text ≡ Some x → (l : Line) (rest : List ℕ) → IsLine l → text ≡ line_text l ++ rest →
    (x.0 ≡ l) × (x.1 ≡ rest)
read-once text x found l rest is spelled =
    let same : x ≡ (l, rest) = some-same (sym found ∙ ap line_at spelled ∙ line_at-reads l rest is) in
    (ap (λ (y : Line × List ℕ). y.0) same, ap (λ (y : Line × List ℕ). y.1) same)
  where
    some-same : (let o : Option (Line × List ℕ) = Some x in o) ≡ Some (l, rest) → x ≡ (l, rest)
    some-same e = cc

-- or with none
pub read-none : (text : List ℕ) → line_at text ≡ None → (l : Line) (rest : List ℕ) → IsLine l → text ≡ line_text l ++ rest → ⊥
read-none text none l rest is spelled = apart (sym none ∙ ap line_at spelled ∙ line_at-reads l rest is)
  where
    apart : (let o : Option (Line × List ℕ) = None in o) ≡ Some (l, rest) → ⊥
    apart e = absurd (cc)
