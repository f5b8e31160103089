-- Each return is what the file has there. Assumes nothing.
use Rattle.std.proofs.Common.{ap, ◌∙◌, Some, None}
use Rattle.answers.specs.Answers.{accepted, answer_of}
use Rattle.set_table.specs.Buffers.{Buffers, buffers}
use Rattle.set_file.proofs.Files.{Held, got, entry-word, vertex-word, triangle-word}
use Rattle.set_file.specs.declared.sound_set.SoundSet.{SoundSet}
use Rattle.set_file.proofs.sound_set.SoundSet.body_word.Goals as goal

abbrev held_by : SoundSet → Buffers
held_by set = buffers set.table.now set.vertices.now set.triangles.now

holds : (set : SoundSet) → Held set.totals (held_by set)
holds set = record { table = set.table_held; vertices = set.vertices_held; triangles = set.triangles_held }

pub returns-in-Some : goal.returns-in-Some
returns-in-Some c =
    let set = c.args.self in
    let first = got _ _ (Some c.in-Some.word) c.in-Some.ensures.lookup in
    entry-word set.totals (held_by set) (holds set) c.args.place c.table_words.ensures first

pub returns-in-Some-get : goal.returns-in-Some-get
returns-in-Some-get c =
    let set = c.args.self in
    let none = got _ _ None c.in_default.ensures.lookup in
    let second = got _ _ (Some c.in-Some-get.coordinate) c.in-Some-get.ensures.lookup in
    ap accepted c.to_word.ensures ∙ vertex-word set.totals (held_by set) (holds set) c.args.place c.table_words.ensures none second

pub returns : goal.returns
returns c =
    let set = c.args.self in
    let none = got _ _ None c.in_default.ensures.lookup in
    let none-either = got _ _ None c.in_default-get.ensures.lookup in
    let third = got _ _ c.get-3.result c.get-3.ensures.lookup in
    ap answer_of c.ok_or.ensures.value
    ∙ triangle-word set.totals (held_by set) (holds set) c.args.place c.table_words.ensures none none-either (c.copied.ensures ∙ third)
