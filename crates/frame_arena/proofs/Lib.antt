mod FrameLemmas
mod EntryLemmas
mod ContentsLemmas
mod KeptLemmas
mod SeenLemmas
