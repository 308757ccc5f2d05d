mod Examples
mod FormsOfTexts
