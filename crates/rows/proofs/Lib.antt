pub mod OneKind
pub mod OneRow
