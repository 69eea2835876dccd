pub mod ProgramTexts
